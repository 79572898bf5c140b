-- `slots::reader::read_value` meets its contract. Assumes nothing.
use Rattle.slots.specs.Machine.{Live}
use lib.ListN.{length}
use Prim.Native.Nat.{◌-◌}
use mathlib.Core.Path.{◌≡◌}
use Rattle.slots.proofs.reader.read_value.Given as goal

abbrev pub invariant-loop-a : goal.invariant-loop-a
invariant-loop-a l = (Live l.f l.cells l.at l.phase l.o) × (length l.cells ≡ length l.initial.cells)

abbrev pub decreases-loop-a : goal.decreases-loop-a
decreases-loop-a l = length l.f - l.at
