-- The f64 that a Real is. Only the statements that f64's operators agree with Reals.antt speak of it.
use Rattle.std.specs.Prelude.{◌≡◌, Bool, T, Float}
use Rattle.std.proofs.Math.Option.{Option, none, some}
use Rattle.std.specs.Float.{inf, binary64}
use Rattle.std.specs.Float.Ieee.{of_bits}
use Rattle.reals.specs.Reals.{Real, is_binary64}
use Rattle.reals.specs.Bits.{bits}

unfoldable pub f64_of : Real → Float
f64_of r = of_bits binary64 (bits r)

-- the f64 is what an operation gives: the Real, bit for bit, or an infinity where there is none
pub data Gives (x : Float) : Option Real → Type 0 where
  gives : {r : Real} → T (is_binary64 r) → x ≡ f64_of r → Gives x (some r)
  gives_none : {s : Bool} → x ≡ inf s → Gives x none
