-- `slots::order::in_order` meets its contract. Assumes nothing.
use Rattle.slots.proofs.OrderLaws.{Ordering}
use Rattle.slots.proofs.order.in_order.Given as goal

abbrev pub invariant-loop-p : goal.invariant-loop-p
invariant-loop-p l = Ordering l.cells l.p
