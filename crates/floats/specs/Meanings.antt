-- What the contracts say. A promise holds of every number that the arguments stand for.
use Rattle.std.specs.Prelude.{◌≡◌, List, ℕ, zero, suc, ◌+◌, ◌-◌, ◌*◌, ◌/◌, ◌%◌, ◌^◌, ◌≤◌, ◌<◌, ℤ, T, ltb, eqb, Float, Option as Optional, Some, None, Result as Fallible, Ok, Err}
use Rattle.std.proofs.Math.Option.{Option, none, some}
use Rattle.std.specs.Float.Ieee.Scale.{finite}
use Rattle.std.specs.Prelude.{if◌then◌else◌}
use Rattle.laws.specs.Integers.{bias, stored_end}
use Rattle.reals.specs.Reals.{Real, is_binary64, Number, int, real, in_range, held, widened, widen, kept, Operation, plus, minus, times, over, Result, result, no_result, over_range, settled, calculated}
use Rattle.reals.specs.Words.{cell, number_in}
use Rattle.reals.specs.Floats.{f64_of, Gives}
use Rattle.reals.specs.Spelling.{Reading, reads, refused, read_real, spell_real}
use Rattle.floats.specs.declared.Number.{Number as Coded}
use Rattle.floats.specs.declared.Number.TheVariants as coded
use Rattle.floats.specs.declared.NoNumber.{NoNumber}
use Rattle.floats.specs.declared.NoNumber.TheVariants.{OverRange, Undefined}
use Rattle.memory.specs.declared.refusals.Misread.{Misread}
use Rattle.memory.specs.declared.refusals.Misread.TheVariants.{Malformed, OverLimit}

-- ---- what the enums stand for

-- an Integer is held with its bias, a Real as the f64 with its bits
unfoldable pub coded_of : Number → Coded
coded_of (int z) = coded.Integer (bias z)
coded_of (real r) = coded.Real (f64_of r)

unfoldable pub computed_of : Result → Fallible Coded NoNumber
computed_of (result n) = Ok (coded_of n)
computed_of no_result = Err Undefined
computed_of over_range = Err OverRange

unfoldable pub spelled_of : Reading → Fallible Float Misread
spelled_of (reads r) = Ok (f64_of r)
spelled_of (refused n) = if eqb n 4 then Err OverLimit else Err Malformed

-- what may be handed over, whatever it stands for
abbrev pub Sound : Coded → Type 0
Sound (coded.Integer n) = n < stored_end
Sound (coded.Real x) = T (finite x)

abbrev pub SoundWhole : Optional ℕ → Type 0
SoundWhole (Some n) = n < stored_end
SoundWhole None = Unit {0}

abbrev pub SoundResult : Fallible Coded NoNumber → Type 0
SoundResult (Ok n) = Sound n
SoundResult (Err Undefined) = Unit {0}
SoundResult (Err OverRange) = Unit {0}

abbrev pub SoundText : Fallible Float Misread → Type 0
SoundText (Ok x) = T (finite x)
SoundText (Err Malformed) = Unit {0}
SoundText (Err OverLimit) = Unit {0}

-- ---- numbers as f64, and back

pub record Widens (n : ℕ) (r : Float) : Type 0 where
  pub sound : T (finite r)
  pub is : (z : ℤ) → T (in_range z) → n ≡ bias z → r ≡ f64_of (widened z)

pub record FloatOf (s : Coded) (r : Float) : Type 0 where
  pub sound : T (finite r)
  pub is : (x : Number) → T (kept x) → s ≡ coded_of x → r ≡ f64_of (widen x)

-- the units of the Real above zero with this rank
unfoldable pub units_at : ℕ → ℕ
units_at n = if ltb n (2 ^ 52) then n else (2 ^ 52 + n % 2 ^ 52) * 2 ^ (n / 2 ^ 52 - 1)

-- the whole number that it is
unfoldable pub whole_at : ℕ → Optional ℕ
whole_at n = if eqb (units_at n % 2 ^ 1074) 0 then Some (units_at n / 2 ^ 1074) else None

pub record Holds (x : Float) (r : Coded) : Type 0 where
  pub sound : Sound r
  pub is : (y : Real) → T (is_binary64 y) → x ≡ f64_of y → r ≡ coded_of (held y)

-- ---- operations

pub record Settles (x : Float) (r : Fallible Coded NoNumber) : Type 0 where
  pub sound : SoundResult r
  pub is : (o : Option Real) → Gives x o → r ≡ computed_of (settled o)

-- the operation with the number
unfoldable pub operation_of : ℕ → Operation
operation_of zero = plus
operation_of (suc zero) = minus
operation_of (suc (suc zero)) = times
operation_of (suc (suc (suc n))) = over

pub record Calculates (op : Operation) (a b : Coded) (r : Fallible Coded NoNumber) : Type 0 where
  pub sound : SoundResult r
  pub is : (x y : Number) → T (kept x) → T (kept y) → a ≡ coded_of x → b ≡ coded_of y → r ≡ computed_of (calculated op x y)

-- ---- words

pub record NumberOf (w : ℕ) (r : Coded) : Type 0 where
  pub sound : Sound r
  -- of a number's word; and of any
  pub is : (x : Number) → T (kept x) → w ≡ cell x → r ≡ coded_of x
  pub total : r ≡ coded_of (number_in w)

pub record CellOf (s : Coded) (r : ℕ) : Type 0 where
  pub is : (x : Number) → T (kept x) → s ≡ coded_of x → r ≡ cell x

-- the Integer that a number is, with its bias
unfoldable pub integer_of : Number → Optional ℕ
integer_of (int z) = Some (bias z)
integer_of (real r) = None

pub record IntegerIn (w : ℕ) (r : Optional ℕ) : Type 0 where
  pub sound : SoundWhole r
  pub is : (x : Number) → T (kept x) → w ≡ cell x → r ≡ integer_of x
  -- no other word has an Integer
  pub low : w ≤ 2 ^ 52 → r ≡ None
  pub high : 2 ^ 64 - 2 ^ 52 ≤ w → r ≡ None

pub record IntegerCell (n r : ℕ) : Type 0 where
  pub is : (z : ℤ) → T (in_range z) → n ≡ bias z → r ≡ cell (int z)

-- ---- spelling

-- the digit, or 16
unfoldable pub digit_or : Option ℕ → ℕ
digit_or none = 16
digit_or (some d) = d

pub record ReadsReal (s : List ℕ) (r : Fallible Float Misread) : Type 0 where
  pub sound : SoundText r
  pub is : r ≡ spelled_of (read_real s)

pub record Spells (x : Float) (r : List ℕ) : Type 0 where
  pub is : (y : Real) → T (is_binary64 y) → x ≡ f64_of y → r ≡ spell_real y
