-- Document 01, The sheet, and Values and types: what is written is read back, nothing else is read so, and how long it can be.
-- proofs/Spelling.antt, proofs/Lengths.antt and proofs/Split.antt prove it.
use Rattle.std.specs.Prelude.{◌≡◌, ◌≢◌, Bool, true, not, List, [], ◌∷◌, ◌++◌, ℕ, ◌≤◌, ◌<◌, ◌^◌, ℤ, length, T}
use Rattle.std.proofs.Math.Option.{Option, none, some}
use Rattle.std.specs.Prelude.{if◌then◌else◌}
use Rattle.laws.specs.Lists.{Each}
use Rattle.reals.specs.Reals.{Real, is_binary64, int, real, in_range, kept}
use Rattle.reals.specs.Spelling.{spell_real, Reading, reads, refused, read_real}
use Rattle.ocl.specs.Types.{Ty, depth}
use Rattle.ocl.specs.Values.{Value, size, every_part, bool, num, obj, coll, largest}
use Rattle.ocl.specs.Evaluation.{most_steps}
use Rattle.sheet.specs.Sizes.{most_classes}
use Rattle.sheet.specs.Text.{Bytes, split, Parser, whole, is_digit, plain, number_parser, integer_parser, spell_number, spell_integer, real_parser}
use Rattle.sheet.specs.Spelling.{read_type, spell_type, read_value, spell_value}
use Rattle.sheet.specs.Limits.{class_below, part_within}

-- ---- one spelling for each number, type and value

-- no digit stands in front, so that a number may end here
pub data Stops : Bytes → Type 0 where
  at-end : Stops []
  no_digit : {b : ℕ} {s : Bytes} → T (not (is_digit b)) → Stops (b ∷ s)

-- digits, one or more, of which 0 leads no other
pub record Decimal (d : Bytes) : Type 0 where
  pub all_digits : Each (λ b. T (is_digit b)) d
  pub no_leading_zero : T (plain d)

-- the spelling of x is read as x, and no other field is
pub record OneSpelling {A : Type 0} (read : Bytes → Option A) (spell : A → Bytes) : Type 0 where
  pub back : (x : A) → read (spell x) ≡ some x
  pub only : (f : Bytes) (x : A) → read f ≡ some x → f ≡ spell x

-- the spelling of an x with P is read as x, and no other field is read as x, whether it has P or not
pub record OneSpellingOf {A : Type 0} (P : A → Type 0) (read : Bytes → Option A) (spell : A → Bytes) : Type 0 where
  pub back : (x : A) → P x → read (spell x) ≡ some x
  pub only : (f : Bytes) (x : A) → read f ≡ some x → f ≡ spell x

-- each Real in a value is one that values hold; Integers may be out of range
unfoldable pub real_kept : Value → Bool
real_kept (bool b) = true
real_kept (num (int z)) = true
real_kept (num (real r)) = kept (real r)
real_kept (obj o) = true
real_kept (coll k vs) = true

-- the same where other bytes follow, of which the first is no digit
pub record OneSpellingInFront {A : Type 0} (p : Parser A) (spell : A → Bytes) : Type 0 where
  pub back : (x : A) (rest : Bytes) → Stops rest → p (spell x ++ rest) ≡ some (x, rest)
  pub only : (s : Bytes) (x : A) (rest : Bytes) → p s ≡ some (x, rest) → s ≡ spell x ++ rest

-- what is said of a field by what is read of it: 3 where nothing is, and 4 where it is an infinity or a NaN
unfoldable pub reading_of : Option Real → Reading
reading_of none = refused 3
reading_of (some r) = if is_binary64 r then reads r else refused 4

pub record SpellingLaws : Type 0 where
  pub decimal : (n : ℕ) → Decimal (spell_number n)
  pub numbers : OneSpelling (whole number_parser) spell_number
  pub numbers_in_front : OneSpellingInFront number_parser spell_number
  pub integers : OneSpelling (whole integer_parser) spell_integer
  pub integers_in_front : OneSpellingInFront integer_parser spell_integer
  pub reals : OneSpellingOf (λ r. T (kept (real r))) (whole real_parser) spell_real
  -- as reals/specs/Spelling.antt has it
  pub reals_alike : (f : Bytes) → read_real f ≡ reading_of (whole real_parser f)
  -- whatever the nesting
  pub types : OneSpelling read_type spell_type
  pub values : OneSpellingOf (λ v. T (every_part real_kept v)) read_value spell_value

-- ---- lengths, by which the room that an answer asks for is known

pub record LengthLaws : Type 0 where
  -- below the k-th power of ten there are at most k digits
  pub number_length : (k n : ℕ) → 1 ≤ k → n < 10 ^ k → length (spell_number n) ≤ k
  -- so many digits has a number of steps at most
  pub steps_length : (n : ℕ) → n ≤ most_steps → length (spell_number n) ≤ 7
  -- ten digits and a sign
  pub integer_length : (z : ℤ) → T (in_range z) → length (spell_integer z) ≤ 11
  -- a letter and sixteen digits
  pub real_length : (r : Real) → length (spell_real r) ≡ 17
  -- three letters with their brackets, and four bytes
  pub type_length : (t : Ty) → depth t ≤ 3 → T (class_below most_classes t) → length (spell_type t) ≤ 13
  -- eighteen bytes for each part: seventeen of a Real, and one that separates it from the next
  pub value_length : (v : Value) → T (every_part part_within v) → size v ≤ largest → length (spell_value v) ≤ 2304

-- ---- separators

-- the parts, with the separator between two
unfoldable pub joined : ℕ → List Bytes → Bytes
joined sep [] = []
joined sep (p ∷ []) = p
joined sep (p ∷ q ∷ ps) = p ++ sep ∷ joined sep (q ∷ ps)

-- no part holds the separator
pub data Parted (sep : ℕ) : List Bytes → Type 0 where
  parted_nil : Parted sep []
  parted_cons : {p : Bytes} {ps : List Bytes} → Each (λ b. b ≢ sep) p → Parted sep ps → Parted sep (p ∷ ps)

-- what `split` gives, at any separator, so at line feeds and at tabs
pub record SplitLaws (sep : ℕ) : Type 0 where
  -- at least one part, and no separator in a part
  pub some_part : (s : Bytes) → 1 ≤ length (split sep s)
  pub parts_free : (s : Bytes) → Parted sep (split sep s)
  -- the parts make the text, and no other parts do
  pub rejoined : (s : Bytes) → joined sep (split sep s) ≡ s
  pub no_other_parts : (ps : List Bytes) → 1 ≤ length ps → Parted sep ps → split sep (joined sep ps) ≡ ps
  -- a text may be cut at any separator; cut at the first one, what stands before it is the first part
  pub cut : (a b : Bytes) → split sep (a ++ sep ∷ b) ≡ split sep a ++ split sep b
  pub first_part : (a b : Bytes) → Each (λ c. c ≢ sep) a → split sep (a ++ sep ∷ b) ≡ a ∷ split sep b
  pub only_part : (a : Bytes) → Each (λ c. c ≢ sep) a → split sep a ≡ a ∷ []
