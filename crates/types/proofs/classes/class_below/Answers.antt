-- `class_below` meets its contract. The loop's invariant: the class reached is below d exactly where c is.
use mathlib.Core.Path.{refl, sym, ◌∙◌}
use Rattle.types.proofs.Parents.{below_same, below_none, below_up, parent_falls}
use Rattle.types.proofs.classes.class_below.Goals as goal

pub loop-x-init : goal.loop-x-init
loop-x-init c = refl

pub returns-then-p-eq0 : goal.returns-then-p-eq0
returns-then-p-eq0 c = below_none _ _ _ c.loop-x-test.true (sym c.if-p-eq0.true ∙ c.parent-p.ensures) ∙ c.loop-x.invariant

pub loop-x-smaller : goal.loop-x-smaller
loop-x-smaller c = search parent_falls

pub loop-x-preserved : goal.loop-x-preserved
loop-x-preserved c = below_up _ _ _ _ c.loop-x-test.true c.parent-p.ensures c.if-p-eq0.false ∙ c.loop-x.invariant

pub returns : goal.returns
returns c = below_same _ _ _ c.loop-x-test.false ∙ c.loop-x.invariant
