-- `cast_type` meets its contract. Assumes nothing.
use mathlib.Core.Path.{sym, ◌∙◌}
use Rattle.judgements.proofs.FormTypes.{cast_any, cast_other, cast_up, cast_down, cast_apart}
use Rattle.judgements.proofs.forms.cast_type.Goals as goal
use Rattle.judgements.proofs.forms.cast_type.Goals.{then-class_below-via-then-class_below, then-class_below-via-else-class_below+then-class_below-2}

pub returns-then-is_any : goal.returns-then-is_any
returns-then-is_any c = λ m e. cast_any m _ e _ _ _ (sym c.if-is_any.true ∙ c.is_any.ensures) c.plain.ensures

pub returns-in_default : goal.returns-in_default
returns-in_default c = λ m e. rw c.at.ensures (cast_other m _ e _ _ _ _ (sym c.if-is_any.false ∙ c.is_any.ensures) c.is_class.ensures c.in_default.is)

pub returns-then-class_below : goal.returns-then-class_below
returns-then-class_below c =
    elim c.then-class_below.branch [
      | then-class_below-via-then-class_below w ↦ (λ m e. cast_up m _ e _ _ _ _ _ c.is_class.ensures c.in-Some.is (sym w.if-class_below.true ∙ c.class_below.ensures) c.plain-then-class_below.ensures)
      | then-class_below-via-else-class_below+then-class_below-2 w ↦ (λ m e. cast_down m _ e _ _ _ _ _ c.is_class.ensures c.in-Some.is (sym w.if-class_below.false ∙ c.class_below.ensures) (sym w.if-class_below-2.true ∙ w.class_below-else-class_below.ensures) c.plain-then-class_below.ensures)
    ]

pub returns : goal.returns
returns c = λ m e. rw c.at-2.ensures (cast_apart m _ e _ _ _ _ _ c.is_class.ensures c.in-Some.is (sym c.if-class_below.false ∙ c.class_below.ensures) (sym c.if-class_below-2.false ∙ c.class_below-else-class_below.ensures))
