-- `join_level` meets its contract: where a type ends, the other must end too, or one of them is Void.
use mathlib.Core.Path.{sym, ◌∙◌}
use Rattle.types.proofs.Levels.{join_ends, join_left, join_no_left, join_right, join_no_right, join_nothing, join_both}
use Rattle.types.proofs.order.join_level.Goals as goal

pub returns-then-l-eq0 : goal.returns-then-l-eq0
returns-then-l-eq0 c = search join_ends

pub returns-then-tag-eq0 : goal.returns-then-tag-eq0
returns-then-tag-eq0 c = λ parent. join_left _ _ _ _ _ c.if-k-eq0.true (sym c.tag.ensures ∙ c.if-tag-eq0.true)

pub returns-then-k-eq0 : goal.returns-then-k-eq0
returns-then-k-eq0 c = λ parent. join_no_left _ _ _ _ _ c.if-k-eq0.true c.if-l-eq0.false (λ e. c.if-tag-eq0.false (c.tag.ensures ∙ e))

pub returns-then-tag-eq0-2 : goal.returns-then-tag-eq0-2
returns-then-tag-eq0-2 c = λ parent. join_right _ _ _ _ _ c.if-k-eq0.false c.if-l-eq0-2.true (sym c.tag-then-l-eq0-2.ensures ∙ c.if-tag-eq0-2.true)

pub returns-then-l-eq0-2 : goal.returns-then-l-eq0-2
returns-then-l-eq0-2 c = λ parent. join_no_right _ _ _ _ _ c.if-k-eq0.false c.if-l-eq0-2.true (λ e. c.if-tag-eq0-2.false (c.tag-then-l-eq0-2.ensures ∙ e))

pub returns-in_default : goal.returns-in_default
returns-in_default c = search join_nothing

pub returns : goal.returns
returns c = search join_both
