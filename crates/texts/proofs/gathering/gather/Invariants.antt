-- `gather` meets its contract: what is gathered of the first nodes.
use Prim.Native.Nat.{◌≤◌}
use Rattle.texts.specs.Gathering.{Gathers}
use Rattle.texts.proofs.gathering.gather.Given as goal

abbrev pub invariant-loop-i : goal.invariant-loop-i
invariant-loop-i l = Gathers l.k l.i l.w2 l.g × (l.i ≤ l.nodes)
