-- `calculation` meets its contract. Assumes nothing.
use Rattle.operations.proofs.NumberLaws.{by_integers, by_reals}
use native.Mathlib.Omega.{arith}
use Rattle.operations.proofs.apply.calculation.Goals as goal

pub returns-then-by_reals : goal.returns-then-by_reals
returns-then-by_reals c = by_reals c.by_reals.ensures _ (omega arith) c.if-by_reals.true c.operation.ensures

pub returns-else-by_reals : goal.returns-else-by_reals
returns-else-by_reals c = by_integers c.by_reals.ensures _ c.if-by_reals.false c.arithmetic.ensures
