-- `values::order::includes` meets its contract. Assumes nothing.
use Prim.Native.Nat.{◌-◌}
use Rattle.values.proofs.Seeking.{Seeking}
use Rattle.values.proofs.order.includes.Given as goal

abbrev pub invariant-loop-q : goal.invariant-loop-q
invariant-loop-q l = Seeking l.stack l.from l.end l.le l.q

abbrev pub decreases-loop-q : goal.decreases-loop-q
decreases-loop-q l = l.end - l.q
