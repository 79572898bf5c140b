-- `values::arith::times` meets its contract. Assumes nothing.
use native.Mathlib.Omega.{arith}
use Rattle.values.proofs.Arithmetic.{product_small, times_is, times_over}
use Rattle.values.proofs.arith.times.Goals as goal

pub overflow_mul-p : goal.overflow_mul-p
overflow_mul-p c = omega (arith, product_small _ _ _ _ c.distance.ensures c.distance-2.ensures (omega arith) (omega arith))

pub returns-then-p-gt-ZERO : goal.returns-then-p-gt-ZERO
returns-then-p-gt-ZERO c = search times_over

pub returns : goal.returns
returns c = search times_is
