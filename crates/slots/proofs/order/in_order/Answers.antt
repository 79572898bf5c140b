-- `slots::order::in_order` meets its contract. Assumes nothing.
use Rattle.slots.proofs.OrderLaws.{order_start, order_not, order_again, order_end}
use Rattle.slots.proofs.order.in_order.Goals as goal

pub loop-p-init : goal.loop-p-init
loop-p-init c = order_start _

pub returns-then-not-in_row : goal.returns-then-not-in_row
returns-then-not-in_row c = search order_not

pub loop-p-preserved : goal.loop-p-preserved
loop-p-preserved c = search order_again

pub returns : goal.returns
returns c = search order_end
