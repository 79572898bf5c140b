-- `base_before` meets its contract: the words in turn, then a class.
use mathlib.Core.Path.{refl, sym, ap, ◌∙◌}
use Rattle.sheet.specs.Text.{bytes}
use Rattle.sheet.specs.Limits.{type_within, class_below, simple_class_below}
use Rattle.ocl.specs.Types.{void, Boolean, Integer, Real, Any, depth}
use Rattle.types.specs.Reading.{held}
use Rattle.types.proofs.TypeFields.{is_field, bad_field, void_base, bool_base, int_base, real_base, any_base, empty_base, no_base, class_base}
use borrow.Author.Tests.{eqb-true, eqb-false}
use Rattle.types.proofs.reading.base_before.Goals as goal
use Rattle.types.proofs.reading.base_before.Goals.{then-is_empty-via-then-is_empty, then-is_empty-via-else-is_empty+then-s-ne35}

pub returns-then-spells : goal.returns-then-spells
unfolding type_within depth class_below bytes
returns-then-spells c = is_field void _ (void_base _ _ (sym c.spells.ensures ∙ c.if-spells.true)) c.plain.ensures refl

pub returns-then-spells-2 : goal.returns-then-spells-2
unfolding type_within depth class_below simple_class_below bytes
returns-then-spells-2 c = is_field Boolean _ (bool_base _ _ (sym c.spells.ensures ∙ c.if-spells.false) (sym c.spells-2.ensures ∙ c.if-spells-2.true)) c.plain-then-spells-2.ensures refl

pub returns-then-spells-3 : goal.returns-then-spells-3
unfolding type_within depth class_below simple_class_below bytes
returns-then-spells-3 c = is_field Integer _ (int_base _ _ (sym c.spells.ensures ∙ c.if-spells.false) (sym c.spells-2.ensures ∙ c.if-spells-2.false) (sym c.spells-3.ensures ∙ c.if-spells-3.true)) c.plain-then-spells-3.ensures refl

pub returns-then-spells-4 : goal.returns-then-spells-4
unfolding type_within depth class_below simple_class_below bytes
returns-then-spells-4 c = is_field Real _ (real_base _ _ (sym c.spells.ensures ∙ c.if-spells.false) (sym c.spells-2.ensures ∙ c.if-spells-2.false) (sym c.spells-3.ensures ∙ c.if-spells-3.false) (sym c.spells-4.ensures ∙ c.if-spells-4.true)) c.plain-then-spells-4.ensures refl

pub returns-then-spells-5 : goal.returns-then-spells-5
unfolding type_within depth class_below simple_class_below bytes
returns-then-spells-5 c = is_field Any _ (any_base _ _ (sym c.spells.ensures ∙ c.if-spells.false) (sym c.spells-2.ensures ∙ c.if-spells-2.false) (sym c.spells-3.ensures ∙ c.if-spells-3.false) (sym c.spells-4.ensures ∙ c.if-spells-4.false) (sym c.spells-5.ensures ∙ c.if-spells-5.true)) c.plain-then-spells-5.ensures refl

pub returns-then-is_empty : goal.returns-then-is_empty
unfolding bytes
returns-then-is_empty c = elim c.then-is_empty.branch [
  | then-is_empty-via-then-is_empty w ↦ bad_field (empty_base _ _ (sym c.spells.ensures ∙ c.if-spells.false) (sym c.spells-2.ensures ∙ c.if-spells-2.false) (sym c.spells-3.ensures ∙ c.if-spells-3.false) (sym c.spells-4.ensures ∙ c.if-spells-4.false) (sym c.spells-5.ensures ∙ c.if-spells-5.false) (eqb-true _ 0 (sym c.is_empty.ensures ∙ w.if-is_empty.true)))
  | then-is_empty-via-else-is_empty+then-s-ne35 w ↦ bad_field (no_base _ _ (sym c.spells.ensures ∙ c.if-spells.false) (sym c.spells-2.ensures ∙ c.if-spells-2.false) (sym c.spells-3.ensures ∙ c.if-spells-3.false) (sym c.spells-4.ensures ∙ c.if-spells-4.false) (sym c.spells-5.ensures ∙ c.if-spells-5.false) (eqb-false _ 0 (sym c.is_empty.ensures ∙ w.if-is_empty.false)) w.if-s-ne35.true)
]

pub returns : goal.returns
unfolding bytes
returns c = c.class_before.ensures ∙ ap held (sym (class_base _ _ (sym c.spells.ensures ∙ c.if-spells.false) (sym c.spells-2.ensures ∙ c.if-spells-2.false) (sym c.spells-3.ensures ∙ c.if-spells-3.false) (sym c.spells-4.ensures ∙ c.if-spells-4.false) (sym c.spells-5.ensures ∙ c.if-spells-5.false) (eqb-false _ 0 (sym c.is_empty.ensures ∙ c.if-is_empty.false)) c.if-s-ne35.false))
