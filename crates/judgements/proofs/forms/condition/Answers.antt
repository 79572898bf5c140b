-- `condition` meets its contract. Assumes nothing.
use mathlib.Core.Path.{sym, ◌∙◌}
use Rattle.judgements.proofs.FormTypes.{condition_yes, condition_no}
use Rattle.judgements.proofs.forms.condition.Goals as goal

pub returns-then-subtype : goal.returns-then-subtype
returns-then-subtype c = λ m e. condition_yes m _ e _ _ c.plain-then-subtype.ensures c.plain.ensures (sym c.if-subtype.true ∙ c.subtype.ensures)

pub returns : goal.returns
returns c = λ m e. rw c.at.ensures (condition_no m _ e _ _ c.plain.ensures (sym c.if-subtype.false ∙ c.subtype.ensures))
