-- `slots::line::slot_suits` meets its contract. Assumes nothing.
use Rattle.slots.proofs.SlotLaws.{parents_part, objects_part, suits_object, suits_value, part_is}
use lib.Seq.{length-take-le}
use mathlib.Core.Path.{sym}
use native.Mathlib.Omega.{arith}
use Rattle.slots.proofs.line.slot_suits.Goals as goal

pub slice_bounds-parents-end : goal.slice_bounds-parents-end
slice_bounds-parents-end c = sym (length-take-le _ c.args.w0.now (let z = c.wide-classes.ensures in let f = c.requires.1.classes in omega arith))

pub returns-then-not-object_suits : goal.returns-then-not-object_suits
returns-then-not-object_suits c = search (suits_object, parents_part, objects_part)

pub returns : goal.returns
returns c = suits_value c.requires.0 c.requires.1 (parents_part c.args.w0.now _ c.wide-classes.ensures) (objects_part c.args.w0.now _ c.wide-objects_end.ensures) c.wide-i.ensures c.object_suits.ensures (c.if-not-object_suits.false) (part_is c.args.w0.now _ _ c.wide-from.ensures) (omega arith) c.unpack-t.ensures c.belongs.ensures
