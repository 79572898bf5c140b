-- `declared` meets its contract. The loop's invariant: the rows passed hold no such row.
use mathlib.Core.Option.{some}
use mathlib.Core.Path.{ap, ◌∙◌}
use native.Mathlib.Omega.{arith}
use Rattle.types.specs.Rows.{found}
use Rattle.types.proofs.RowLaws.{declared_none, declared_here, declared_name, declared_owner}
use Rattle.types.proofs.rows.declared.Goals as goal
use Rattle.types.proofs.rows.declared.Goals.{else-owners-i-via-then-owners-i+else-names-i, else-owners-i-via-else-owners-i}

pub returns-then-names-i : goal.returns-then-names-i
unfolding found
returns-then-names-i c = ap some c.long.ensures ∙ declared_here _ _ _ _ _ (omega arith) c.if-owners-i.true c.if-names-i.true ∙ c.loop-i.invariant

pub loop-i-preserved : goal.loop-i-preserved
loop-i-preserved c = elim c.else-owners-i.branch [
  | else-owners-i-via-then-owners-i+else-names-i w ↦ declared_name _ _ _ _ _ (omega arith) w.if-owners-i.true w.if-names-i.false ∙ c.loop-i.invariant
  | else-owners-i-via-else-owners-i w ↦ declared_owner _ _ _ _ _ (omega arith) w.if-owners-i.false ∙ c.loop-i.invariant
]

pub returns : goal.returns
unfolding found
returns c = declared_none _ _ _ _ c.requires.unnamed _ c.loop-i-test.false ∙ c.loop-i.invariant
