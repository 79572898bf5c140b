-- `nots` meets its contract.
use Prim.Native.Nat.{◌-◌}
use lib.ListN.{length}
use Rattle.importer.proofs.NotLaws.{Noted}
use Rattle.importer.proofs.leaves.nots.Given as goal

abbrev pub invariant-loop-next : goal.invariant-loop-next
invariant-loop-next l = Noted l.s l.initial.u l.u l.n

abbrev pub decreases-loop-next : goal.decreases-loop-next
decreases-loop-next l = length l.s - l.u.start
