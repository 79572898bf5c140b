use Rattle.replay.proofs.MemberLaws.{Among}
use Prim.Native.Nat.{◌-◌}
use Rattle.replay.proofs.value.+value_end.Given as goal

abbrev pub decreases-value_end : goal.decreases-value_end
decreases-value_end l = l.deep

abbrev pub invariant-loop : goal.invariant-loop
invariant-loop l = Among l.cells l.p (l.deep - 1) l.n l.q l.counter
