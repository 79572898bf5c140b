-- `operations::apply::including` meets its contract. Assumes nothing.
use native.Mathlib.Omega.{arith}
use Rattle.operations.proofs.BinaryLaws.{including_stuck, including_done}
use Rattle.operations.proofs.apply.including.Goals as goal

pub returns-then-sort_of-lt-SET : goal.returns-then-sort_of-lt-SET
returns-then-sort_of-lt-SET c = search including_stuck

pub returns : goal.returns
returns c = including_done c.sort_of.ensures c.if-sort_of-lt-SET.false _ (omega arith) c.add.ensures c.formed.ensures
