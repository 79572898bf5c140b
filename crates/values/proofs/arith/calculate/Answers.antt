-- `values::arith::calculate` meets its contract. Assumes nothing.
use native.Mathlib.Omega.{arith}
use Rattle.values.proofs.Arithmetic.{arith_0, arith_1, arith_2, calculated_by}
use Rattle.values.proofs.arith.calculate.Goals as goal

pub returns-in-0 : goal.returns-in-0
returns-in-0 c = calculated_by (arith_0 (omega arith)) c.plus.ensures

pub returns-in-1 : goal.returns-in-1
returns-in-1 c = calculated_by (arith_1 (omega arith)) c.minus.ensures

pub returns-in_default : goal.returns-in_default
returns-in_default c = calculated_by (arith_2 _ (omega arith)) c.times.ensures
