-- Integers of the range, counted from the least one: each has one number, and each number below 2^32 is of one. Assumes nothing.
use Prim.Native.Nat.{suc, ◌+◌, ◌-◌, ◌<◌}
use mathlib.Core.Path.{◌≡◌, ap}
use mathlib.Core.Bool.{true}
use native.Mathlib.Omega.{arith}
use borrow.Author.Tests.{lt-ltb, le-ltb, ltb-true}
use lib.IntN.{ℤ, pos, negsuc}
use Rattle.laws.specs.Integers.{bias, unbias}
use Rattle.reals.specs.Reals.{in_range}

pub unbias_bias : (z : ℤ) → in_range z ≡ true → unbias (bias z) ≡ z
unfolding bias unbias in_range
unbias_bias (pos n) h = rw (le-ltb (2147483648 + n) 2147483648 (omega arith)) (ap pos (omega arith))
unbias_bias (negsuc n) h =
    let l : n < 2147483648 = ltb-true n 2147483648 h in
    rw (lt-ltb (2147483648 - suc n) 2147483648 (omega arith)) (ap negsuc (omega arith))

-- an Integer of the range fits 32 bits
pub bias_small : (z : ℤ) → in_range z ≡ true → bias z < 4294967296
unfolding bias in_range
bias_small (pos n) h = omega (arith, ltb-true n 2147483648 h)
bias_small (negsuc n) h = omega arith
