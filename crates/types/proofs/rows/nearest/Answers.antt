-- `nearest` meets its contract. The loop's invariant: the class reached reads the row that c reads.
use mathlib.Core.Path.{refl, sym, ◌∙◌}
use Rattle.types.specs.Rows.{found}
use Rattle.types.proofs.Parents.{parent_falls}
use Rattle.types.proofs.RowLaws.{read_here, read_none, read_up}
use Rattle.types.proofs.rows.nearest.Goals as goal

pub loop-f-init : goal.loop-f-init
loop-f-init c = refl

pub returns-in_default : goal.returns-in_default
returns-in_default c = read_here _ _ _ _ _ _ _ c.declared-f.ensures _ c.in_default.is ∙ c.loop-f.invariant

pub returns-then-p-eq0 : goal.returns-then-p-eq0
unfolding found
returns-then-p-eq0 c = read_none _ _ _ _ _ _ _ c.declared-f.ensures c.in-None.is (sym c.if-p-eq0.true ∙ c.parent-p.ensures) ∙ c.loop-f.invariant

pub loop-f-smaller : goal.loop-f-smaller
loop-f-smaller c = search parent_falls

pub loop-f-preserved : goal.loop-f-preserved
loop-f-preserved c = read_up _ _ _ _ _ _ _ c.declared-f.ensures _ c.in-None.is c.parent-p.ensures c.if-p-eq0.false ∙ c.loop-f.invariant
