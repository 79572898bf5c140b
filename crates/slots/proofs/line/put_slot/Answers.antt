-- `slots::line::put_slot` meets its contract. Assumes nothing.
use Rattle.slots.specs.Slots.{slot_counts}
use Rattle.slots.proofs.PutLaws.{slot_big_object, slot_big_row, slot_full, slot_disorder, slot_unknown, slot_unsuited, slot_taken}
use mathlib.Core.Path.{ap, ◌∙◌}
use native.Mathlib.Omega.{arith}
use Rattle.slots.proofs.line.put_slot.Goals as goal

pub returns-then-o-ge-MOST_OBJECTS : goal.returns-then-o-ge-MOST_OBJECTS
returns-then-o-ge-MOST_OBJECTS c = search slot_big_object

pub returns-then-a-ge-MOST_ROWS : goal.returns-then-a-ge-MOST_ROWS
returns-then-a-ge-MOST_ROWS c = search slot_big_row

pub returns-then-st-ge-MOST_VALUES : goal.returns-then-st-ge-MOST_VALUES
returns-then-st-ge-MOST_VALUES c = search slot_full

pub returns-then-not-slot_in_order : goal.returns-then-not-slot_in_order
returns-then-not-slot_in_order c = search slot_disorder

pub returns-then-not-slot_known : goal.returns-then-not-slot_known
returns-then-not-slot_known c = search slot_unknown

pub returns-then-not-slot_suits : goal.returns-then-not-slot_suits
returns-then-not-slot_suits c = search slot_unsuited

pub returns : goal.returns
returns c = λ w1 k. slot_taken c.args.st k c.args.w0.now w1 (omega arith) (omega arith) (omega arith) c.requires.3 c.slot_in_order.ensures (c.if-not-slot_in_order.false) c.slot_known.ensures (c.if-not-slot_known.false) c.slot_suits.ensures c.requires.0 c.requires.1 (c.if-not-slot_suits.false) (c.store_slot.ensures.0 ∙ ap (slot_counts c.args.st) c.long.ensures) c.store_slot.ensures.1
