-- `slots::reader::read_value` meets its contract. Assumes nothing.
use Rattle.slots.proofs.BeginLaws.{begun}
use Rattle.slots.proofs.TurnLaws.{turn_up, turn_live, turn_read, live_within}
use mathlib.Core.Path.{refl, ◌∙◌}
use native.Mathlib.Omega.{arith}
use Rattle.slots.proofs.reader.read_value.Goals as goal

pub loop-a-init : goal.loop-a-init
loop-a-init c = (begun _ _ refl, refl)

pub loop-a-smaller : goal.loop-a-smaller
loop-a-smaller c = let t = rw c.in-On.is at c.next_part-t.ensures in omega (arith, turn_up t, live_within (turn_live t))

pub loop-a-preserved : goal.loop-a-preserved
loop-a-preserved c = (turn_live (rw c.in-On.is at c.next_part-t.ensures), c.next_part-t.auto.cells ∙ c.loop-a.invariant.1)

pub returns-in-Stop : goal.returns-in-Stop
returns-in-Stop c = turn_read (rw c.in-Stop.is at c.next_part-t.ensures)
