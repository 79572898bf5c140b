-- What a program writes for the text that it has read.
use Rattle.std.specs.Prelude.{ℕ, ◌≤◌, ◌≡◌, List, length, take}
use Rattle.std.specs.Fn.{Shared, FnReturns}
use denote.Ref.{Bor, MutBor}
use Rattle.std.specs.Io.KnownBytes.{IsAtEnd}
use Rattle.std.specs.declared.option.Option.{Option}
use Rattle.sheet.specs.Sizes.{most_bytes}
use Rattle.sheet.specs.Text.{Bytes}

-- a text that a reader gave is all that it had, unless it is longer than a sheet may be
abbrev pub Whole : Option (List ℕ) → Bytes → Type 0
Whole left text = length text ≤ most_bytes → IsAtEnd left

module _ {F : Type 0} (g : Shared F (Bor Bytes × (MutBor Bytes × Unit {0})) (ℕ × (MutBor Bytes × Unit {0}))) (f : F) where
  -- no call answers more than its output holds
  pub record Fits : Type 0 where
    pub within : (text : Bor Bytes) (before after : MutBor Bytes) (n : ℕ) → FnReturns g f (text, (before, tt)) (n, (after, tt)) → n ≤ length after.now

  -- a call for this text may answer n and leave this output
  pub record Answers (text : Bytes) (n : ℕ) (out : Bytes) : Type 0 where
    pub shown : Bor Bytes
    pub before : MutBor Bytes
    pub after : MutBor Bytes
    pub shows : shown.now ≡ text
    pub says : FnReturns g f (shown, (before, tt)) (n, (after, tt))
    pub is : after.now ≡ out

  -- a call for this text may leave these bytes at the front of its output
  pub record Leaves (text left : Bytes) : Type 0 where
    pub n : ℕ
    pub out : Bytes
    pub answers : Answers text n out
    pub is : left ≡ take n out
