-- `values::arith::toward` meets its contract. Assumes nothing.
use native.Mathlib.Omega.{arith}
use Rattle.values.proofs.Arithmetic.{above_zero, above_range, below-zero}
use Rattle.values.proofs.arith.toward.Goals as goal

pub returns-then-d-lt-ZERO : goal.returns-then-d-lt-ZERO
returns-then-d-lt-ZERO c = search above_zero

pub returns-else-d-lt-ZERO : goal.returns-else-d-lt-ZERO
returns-else-d-lt-ZERO c = search above_range

pub returns-else-up : goal.returns-else-up
returns-else-up c = below-zero c.if-up.false (omega arith)
