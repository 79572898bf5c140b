-- `letter_join` meets its contract.
use native.Mathlib.Omega.{arith}
use Rattle.types.proofs.Levels.{letter_same, letter_apart}
use Rattle.types.proofs.order.letter_join.Goals as goal

pub returns-then-k-l : goal.returns-then-k-l
returns-then-k-l c = (omega arith, letter_same _ _ c.if-k-l.true)

pub returns-else-k-l : goal.returns-else-k-l
returns-else-k-l c = (omega arith, letter_apart _ _ c.if-k-l.false)
