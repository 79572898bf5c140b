-- `mark` meets its contract.
use Rattle.trees.proofs.OperandLaws.{mark_late, mark_used, mark_next, mark_end}
use Rattle.trees.specs.Operands.{marked}
use lib.ListN.{length-set}
use Rattle.trees.proofs.operands.mark.Goals as goal

pub returns-then-a-n : goal.returns-then-a-n
unfolding marked
returns-then-a-n c = mark_late _ _ _ _ _ _ c.loop-a.invariant.0 c.loop-a-test.true c.if-a-n.true

pub returns-then-d-eq1 : goal.returns-then-d-eq1
unfolding marked
returns-then-d-eq1 c = mark_used _ _ _ _ _ _ c.loop-a.invariant.0 c.loop-a-test.true c.if-a-n.false c.if-d-eq1.true

pub loop-a-preserved : goal.loop-a-preserved
loop-a-preserved c = (mark_next _ _ _ _ _ _ c.loop-a.invariant.0 c.loop-a-test.true c.if-a-n.false c.if-d-eq1.false c.deeper-deepest.ensures, c.loop-a.invariant.1, simp length-set c.loop-a.invariant.2)

pub returns : goal.returns
unfolding marked
returns c = mark_end _ _ _ _ _ _ c.loop-a.invariant.0 c.loop-a-test.false
