-- `place` meets its contract: the sheet with the first nodes.
use Prim.Native.Nat.{◌≤◌}
use Rattle.texts.proofs.PlacingLaws.{Placing}
use Rattle.texts.proofs.placing.place.Given as goal

abbrev pub invariant-loop-i : goal.invariant-loop-i
invariant-loop-i l = Placing l.initial.on l.k l.nodes l.w0 l.initial.w1 l.w2 l.on l.i l.w1 × (l.i ≤ l.nodes)
