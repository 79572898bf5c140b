-- `conditional_type` meets its contract. Assumes nothing.
use mathlib.Core.Path.{sym, ◌∙◌}
use Rattle.judgements.proofs.FormTypes.{choice_yes, choice_no}
use Rattle.judgements.proofs.forms.conditional_type.Goals as goal

pub returns-then-subtype : goal.returns-then-subtype
returns-then-subtype c = λ m e. choice_yes m _ e _ _ _ _ c.plain.ensures (sym c.if-subtype.true ∙ c.subtype.ensures) (c.common_type.ensures m e)

pub returns : goal.returns
returns c = λ m e. rw c.at.ensures (choice_no m _ e _ _ _ _ c.plain.ensures (sym c.if-subtype.false ∙ c.subtype.ensures))
