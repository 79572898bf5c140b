-- `slots::line::slot_known` meets its contract. Assumes nothing.
use borrow.Author.Tests.{le-ltb}
use Rattle.slots.proofs.SlotLaws.{part_is, known_no_object, known_no_row, known_value}
use native.Mathlib.Omega.{arith}
use Rattle.slots.proofs.line.slot_known.Goals as goal
use Rattle.slots.proofs.line.slot_known.Goals.{then-o-st, else-o-st}

pub returns-then-a-st : goal.returns-then-a-st
returns-then-a-st c = known_value (omega arith) (omega arith) (omega arith) (part_is _ _ _ c.wide-from.ensures) c.all_known.ensures

pub returns-else-a-st : goal.returns-else-a-st
returns-else-a-st c = elim c.if-o-st.branch [
  | then-o-st w ↦ rw (w.t-10-is, le-ltb c.args.a c.args.st.rows (omega arith)) (known_no_row w.if-o-st.true (omega arith))
  | else-o-st w ↦ rw (w.t-10-is, le-ltb c.args.o c.args.st.objects (omega arith)) (known_no_object w.if-o-st.false)
]
