-- `call_type` meets its contract. Assumes nothing.
use mathlib.Core.Path.{sym, ◌∙◌}
use Rattle.judgements.proofs.CallTypes.{call_other, call_in, call_out}
use Rattle.judgements.proofs.forms.call_type.Goals as goal

pub returns-in_default : goal.returns-in_default
returns-in_default c = search (call_other, c.at.ensures)

pub returns-then-class_below : goal.returns-then-class_below
returns-then-class_below c = λ m e. call_in m _ e _ _ _ _ _ _ c.is_class.ensures c.in-Some.is (sym c.if-class_below.true ∙ c.class_below.ensures)

pub returns : goal.returns
returns c = λ m e. rw c.at-2.ensures (call_out m _ e _ _ _ _ _ _ c.is_class.ensures c.in-Some.is (sym c.if-class_below.false ∙ c.class_below.ensures))
