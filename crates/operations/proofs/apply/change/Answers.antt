-- `operations::apply::change` meets its contract. Assumes nothing.
use native.Mathlib.Omega.{arith}
use Rattle.operations.proofs.OperationLaws.{change_stuck, change_done, kind_code_lem}
use Rattle.operations.proofs.apply.change.Goals as goal

pub returns-then-sort_of-lt-SET : goal.returns-then-sort_of-lt-SET
returns-then-sort_of-lt-SET c = change_stuck c.sort_of.ensures _ c.if-sort_of-lt-SET.true

pub returns : goal.returns
returns c = change_done c.sort_of.ensures _ c.if-sort_of-lt-SET.false (kind_code_lem _ c.requires.0) (omega arith) c.convert.ensures c.formed.ensures
