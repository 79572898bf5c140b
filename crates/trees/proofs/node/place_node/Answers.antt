-- `place_node` meets its contract.
use mathlib.Core.Path.{sym, ◌∙◌}
use borrow.Author.Tests.{leb-true}
use Rattle.trees.proofs.PlaceLaws.{place_4, place_5, place_6, place_23, place_24}
use Rattle.trees.proofs.node.place_node.Goals as goal

pub returns-then-not-within_limits : goal.returns-then-not-within_limits
returns-then-not-within_limits c = search place_4

pub returns-then-not-in_order : goal.returns-then-not-in_order
returns-then-not-in_order c = place_5 _ _ c.requires.2 (sym c.within_limits.ensures ∙ c.if-not-within_limits.false) c.in_order.ensures c.if-not-in_order.true

pub returns-then-st-p : goal.returns-then-st-p
returns-then-st-p c = place_6 _ _ c.requires.2 (sym c.within_limits.ensures ∙ c.if-not-within_limits.false) (sym c.in_order.ensures ∙ c.if-not-in_order.false) c.if-st-p.true

pub put_node-requires : goal.put_node-requires
put_node-requires c = (c.requires.0, c.requires.1, c.requires.2, c.requires.3, c.requires.4, record { limits = (sym c.within_limits.ensures ∙ c.if-not-within_limits.false); order = (sym c.in_order.ensures ∙ c.if-not-in_order.false); classes = c.if-st-p.false; calls = leb-true _ _ (sym c.calls_below.ensures ∙ c.if-calls_below.true) })

pub returns-then-st-eq-DEFINITION_OPEN : goal.returns-then-st-eq-DEFINITION_OPEN
returns-then-st-eq-DEFINITION_OPEN c = place_23 _ _ c.requires.2 (sym c.within_limits.ensures ∙ c.if-not-within_limits.false) (sym c.in_order.ensures ∙ c.if-not-in_order.false) c.if-st-p.false c.calls_below.ensures c.if-calls_below.false c.if-st-eq-DEFINITION_OPEN.true

pub returns : goal.returns
returns c = place_24 _ _ c.requires.2 (sym c.within_limits.ensures ∙ c.if-not-within_limits.false) (sym c.in_order.ensures ∙ c.if-not-in_order.false) c.if-st-p.false c.calls_below.ensures c.if-calls_below.false c.if-st-eq-DEFINITION_OPEN.false
