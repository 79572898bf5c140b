-- `find_slot` meets its contract. Assumes nothing.
use Prim.Native.Nat.{◌-◌}
use Rattle.outcomes.proofs.Lookups.{Between}
use Rattle.outcomes.proofs.lookup.find_slot.Given as goal

abbrev pub invariant-loop-low : goal.invariant-loop-low
invariant-loop-low l = Between l.tables l.slots l.key l.low l.high

abbrev pub decreases-loop-low : goal.decreases-loop-low
decreases-loop-low l = l.high - l.low
