-- `slots::reader::begin` meets its contract. Assumes nothing.
use Rattle.slots.proofs.BeginLaws.{wanted_depth, begin_simple, begin_wide, begin_bad, begin_opens, simple_up, wide_up, opens_up}
use Rattle.slots.proofs.TurnLaws.{turn_later}
use Rattle.slots.specs.Machine.{turn_on, turn_stop, read_bad}
use native.Mathlib.Omega.{arith}
use Rattle.slots.proofs.reader.begin.Goals as goal

pub ended-requires : goal.ended-requires
ended-requires c = begin_simple c.requires.0 (omega arith) (rw c.in-Simple.is at c.in-Some.ensures) c.add_cell-r.ensures

pub ended-requires-in-Wide : goal.ended-requires-in-Wide
ended-requires-in-Wide c = begin_wide c.requires.0 (omega arith) (rw c.in-Wide.is at c.in-Some.ensures) c.passed.ensures

pub open_cell-r-requires : goal.open_cell-r-requires
open_cell-r-requires c = omega (arith, wanted_depth)

pub returns-in_default : goal.returns-in_default
returns-in_default c = turn_stop (read_bad (begin_bad c.requires.0 (omega arith) c.in_default.ensures))

pub returns-in-Simple : goal.returns-in-Simple
returns-in-Simple c = turn_later (simple_up (rw c.in-Simple.is at c.in-Some.ensures)) c.ended.ensures

pub returns-in-Wide : goal.returns-in-Wide
returns-in-Wide c = turn_later (wide_up (rw c.in-Wide.is at c.in-Some.ensures)) c.ended-in-Wide.ensures

pub returns-in-Opens : goal.returns-in-Opens
returns-in-Opens c = turn_on (opens_up (rw c.in-Opens.is at c.in-Some.ensures)) (begin_opens c.requires.0 (omega arith) (rw c.in-Opens.is at c.in-Some.ensures) c.open_cell-r.ensures)
