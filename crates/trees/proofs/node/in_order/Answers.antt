-- `in_order` meets its contract.
use Rattle.trees.proofs.PlaceLaws.{order_block, order_open, order_text, order_number, order_apart}
use Rattle.trees.proofs.node.in_order.Goals as goal

pub returns-then-st-gt-RULES : goal.returns-then-st-gt-RULES
returns-then-st-gt-RULES c = order_block _ _ _ c.if-st-gt-RULES.true

pub returns-then-st-eq-NOTHING_OPEN : goal.returns-then-st-eq-NOTHING_OPEN
returns-then-st-eq-NOTHING_OPEN c = search order_open

pub returns-then-st-eq-TEXT_GIVEN : goal.returns-then-st-eq-TEXT_GIVEN
returns-then-st-eq-TEXT_GIVEN c = search order_text

pub returns-then-n-st : goal.returns-then-n-st
returns-then-n-st c = search order_number

pub returns : goal.returns
returns c = search order_apart
