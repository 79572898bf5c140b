-- What the contracts of the arithmetic on Integers say: each number is an Integer with its bias.
use Rattle.std.specs.Prelude.{◌≡◌, Bool, true, false, ℕ, zero, suc, ◌+◌, ◌-◌, ℤ, pos, neg_ℤ, T, ltb, leb, Result as Fallible, Ok, Err}
use Rattle.std.specs.Prelude.{if◌then◌else◌}
use Rattle.laws.specs.Integers.{integer_end}
use Rattle.reals.specs.Reals.{int, real, in_range, Result, result, no_result, over_range}
use Rattle.ocl.specs.Forms.{Arith, plus, minus, times, Division, div, modulo}
use Rattle.ocl.specs.Operations.{arithmetic, division}
use Rattle.values.specs.Cells.{bias}
use Rattle.floats.specs.declared.NoNumber.{NoNumber}
use Rattle.floats.specs.declared.NoNumber.TheVariants.{OverRange, Undefined}

-- the code's answer for what arithmetic on Integers comes to, which is never a Real
unfoldable pub num_of : Result → Fallible ℕ NoNumber
num_of (result (int z)) = Ok (bias z)
num_of (result (real r)) = Err OverRange
num_of no_result = Err Undefined
num_of over_range = Err OverRange

pub record Calculates (op : Arith) (a b : ℕ) (r : Fallible ℕ NoNumber) : Type 0 where
  pub is : (x y : ℤ) → T (in_range x) → T (in_range y) → a ≡ bias x → b ≡ bias y → r ≡ num_of (arithmetic op x y)

pub record Divides (op : Division) (a b : ℕ) (r : Fallible ℕ NoNumber) : Type 0 where
  pub is : (x y : ℤ) → T (in_range x) → T (in_range y) → a ≡ bias x → b ≡ bias y → r ≡ num_of (division op x y)

-- the operations with the number
unfoldable pub arith_of : ℕ → Arith
arith_of zero = plus
arith_of (suc zero) = minus
arith_of (suc (suc n)) = times

unfoldable pub division_of : ℕ → Division
division_of zero = div
division_of (suc n) = modulo

-- how far an Integer is from 0
unfoldable pub distance : ℕ → ℕ
distance a = (a - integer_end) + (integer_end - a)

-- are both on the same side of 0
unfoldable pub alike : ℕ → ℕ → Bool
alike a b = if ltb a integer_end then ltb b integer_end else leb integer_end b

-- d above 0 or below it
unfoldable pub side : Bool → ℕ → ℤ
side true d = pos d
side false d = neg_ℤ (pos d)
