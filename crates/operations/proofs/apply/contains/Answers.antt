-- `operations::apply::contains` meets its contract. Assumes nothing.
use native.Mathlib.Omega.{arith}
use Rattle.operations.proofs.BinaryLaws.{includes_stuck, includes_done}
use Rattle.operations.proofs.apply.contains.Goals as goal

pub returns-then-sort_of-lt-SET : goal.returns-then-sort_of-lt-SET
returns-then-sort_of-lt-SET c = search includes_stuck

pub returns : goal.returns
returns c = includes_done c.sort_of.ensures c.if-sort_of-lt-SET.false c.requires.0 (omega arith) c.includes-b.ensures c.put.ensures
