-- `common_class` meets its contract. The loop's invariant: the class reached and d have in common what c and d have, and it is a byte.
use mathlib.Core.Path.{refl, sym, ap, ◌∙◌}
use native.Mathlib.Omega.{arith}
use Rattle.ocl.specs.Types.{simple}
use Rattle.types.proofs.Parents.{common_here, common_none, common_up, parent_falls}
use Rattle.types.proofs.classes.common_class.Goals as goal

pub loop-c-init : goal.loop-c-init
loop-c-init c = (refl, omega arith)

pub returns-then-class_below : goal.returns-then-class_below
returns-then-class_below c = ap simple (sym (common_here _ _ _ (sym c.if-class_below.true ∙ c.class_below.ensures)) ∙ c.loop-c.invariant.0)

pub returns-then-p-eq0 : goal.returns-then-p-eq0
returns-then-p-eq0 c = ap simple (sym (common_none _ _ _ (sym c.if-class_below.false ∙ c.class_below.ensures) (sym c.if-p-eq0.true ∙ c.parent-p.ensures)) ∙ c.loop-c.invariant.0)

pub overflow_cast-x-in-loop-c-2 : goal.overflow_cast-x-in-loop-c-2
overflow_cast-x-in-loop-c-2 c = let h = parent_falls _ _ _ c.parent-p.ensures c.if-p-eq0.false in omega arith

pub loop-c-smaller : goal.loop-c-smaller
loop-c-smaller c = search parent_falls

pub loop-c-preserved : goal.loop-c-preserved
loop-c-preserved c = (common_up _ _ _ _ (sym c.if-class_below.false ∙ c.class_below.ensures) c.parent-p.ensures c.if-p-eq0.false ∙ c.loop-c.invariant.0, let h = parent_falls _ _ _ c.parent-p.ensures c.if-p-eq0.false in omega arith)
