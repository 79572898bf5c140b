-- `values::cells::skip` meets its contract. Assumes nothing.
use Prim.Native.Nat.{◌-◌}
use Rattle.values.proofs.Scanning.{Skipping}
use Rattle.values.proofs.cells.skip.Given as goal

abbrev pub invariant-loop-n : goal.invariant-loop-n
invariant-loop-n l = Skipping l.stack l.p l.limit l.q l.n

abbrev pub decreases-loop-n : goal.decreases-loop-n
decreases-loop-n l = l.limit - l.q
