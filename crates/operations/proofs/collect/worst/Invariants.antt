-- `worst` meets its contract. Assumes nothing.
use Prim.Native.Nat.{◌-◌}
use Rattle.operations.proofs.StandingLaws.{Worsening}
use Rattle.operations.proofs.collect.worst.Given as goal

abbrev pub invariant-loop-q : goal.invariant-loop-q
invariant-loop-q l = Worsening l.st l.tables l.i l.from l.end l.stack l.q l.all

abbrev pub decreases-loop-q : goal.decreases-loop-q
decreases-loop-q l = l.end - l.q
