use Rattle.slots.proofs.SuitLaws.{Belonging}
use Prim.Native.Nat.{◌-◌}
use Rattle.slots.proofs.suits.+belongs.Given as goal

abbrev pub decreases-belongs : goal.decreases-belongs
decreases-belongs l = l.end - l.p

abbrev pub invariant-loop-q : goal.invariant-loop-q
invariant-loop-q l = Belonging l.parents l.objects l.cells l.p l.end l.inner l.q

abbrev pub decreases-loop-q : goal.decreases-loop-q
decreases-loop-q l = l.end - l.q
