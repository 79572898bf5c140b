-- `slots::reader::next_part` meets its contract. Assumes nothing.
use Rattle.slots.proofs.TurnLaws.{live_end, is_wanted, is_open, closes, begins, commas, others}
use Rattle.slots.specs.Machine.{turn_on, turn_stop, read_bad}
use native.Mathlib.Omega.{arith}
use borrow.Author.Rules.{rules}
use Rattle.slots.proofs.reader.next_part.Goals as goal
use Rattle.slots.proofs.reader.next_part.Goals.{then-phase-ne0+else-f-at-eq41+else-phase-ne1, else-phase-ne0}

pub returns-then-f-at : goal.returns-then-f-at
returns-then-f-at c = search (turn_stop, read_bad, live_end)

pub closed-requires : goal.closed-requires
closed-requires c = search is_open

pub ended-requires : goal.ended-requires
ended-requires c = search closes

pub returns-then-f-at-eq44 : goal.returns-then-f-at-eq44
returns-then-f-at-eq44 c = search (turn_on, commas, rules)

pub returns-then-phase-ne1 : goal.returns-then-phase-ne1
returns-then-phase-ne1 c = search (turn_stop, read_bad, others)

pub begin-requires : goal.begin-requires
begin-requires c = (
  elim c.if-phase-ne0.branch [
    | then-phase-ne0+else-f-at-eq41+else-phase-ne1 w ↦ begins (omega arith) c.requires w.if-phase-ne1.false w.if-f-at-eq41.false
    | else-phase-ne0 w ↦ is_wanted c.requires w.if-phase-ne0.false
  ],
  omega arith,
)
