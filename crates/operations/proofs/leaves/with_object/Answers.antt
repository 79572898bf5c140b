-- `operations::leaves::with_object` meets its contract. Assumes nothing.
use native.Mathlib.Omega.{arith}
use Rattle.operations.proofs.LeafLaws.{with_yes, with_no}
use Rattle.operations.proofs.leaves.with_object.Goals as goal

pub returns-then-is_a : goal.returns-then-is_a
returns-then-is_a c = search with_yes

pub returns-else-is_a : goal.returns-else-is_a
returns-else-is_a c = with_no c.is_a.ensures c.if-is_a.false c.requires.le_len.0 c.requires.le_len.1 (omega arith)
