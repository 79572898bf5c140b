-- `slots::order::in_row` meets its contract. Assumes nothing.
use Rattle.slots.proofs.OrderLaws.{Rowing}
use Prim.Native.Nat.{◌-◌}
use Rattle.slots.proofs.order.in_row.Given as goal

abbrev pub invariant-loop-q : goal.invariant-loop-q
invariant-loop-q l = Rowing l.cells l.p l.sort l.end l.q

abbrev pub decreases-loop-q : goal.decreases-loop-q
decreases-loop-q l = l.end - l.q
