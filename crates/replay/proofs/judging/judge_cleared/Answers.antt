-- `replay::judging::judge_cleared` meets its contract. Assumes nothing.
use native.Mathlib.Omega.{arith}
use mathlib.Core.Logic.{⊎_elim}
use mathlib.Core.Path.{sym}
use lib.Seq.{length-take-le}
use Rattle.slots.proofs.SlotLaws.{parents_part, objects_part}
use Rattle.replay.proofs.ClearingLaws.{clear_object, clear_row, clear_no_object, clear_no_row, clear_unsuited, clear_taken}
use Rattle.replay.proofs.judging.judge_cleared.Goals as goal

pub returns-then-o-ge-MOST_OBJECTS : goal.returns-then-o-ge-MOST_OBJECTS
returns-then-o-ge-MOST_OBJECTS c = λ w1. ⊎_elim (λ h. clear_object (omega arith)) (λ h. clear_row (omega (arith, h.0)) (omega (arith, h.1))) c.then-o-ge-MOST_OBJECTS.either

pub returns-then-st-o : goal.returns-then-st-o
returns-then-st-o c = λ w1. ⊎_elim (λ h. clear_no_object (omega arith) (omega arith) (omega arith)) (λ h. clear_no_row (omega arith) (omega arith) (omega (arith, h.0)) (omega (arith, h.1))) c.then-st-o.either

pub slice_bounds-object_suits-end : goal.slice_bounds-object_suits-end
slice_bounds-object_suits-end c = sym (length-take-le _ c.args.w0.now (let z = c.wide-classes.ensures in let f = c.requires.1.classes in omega arith))

pub returns-then-not-object_suits : goal.returns-then-not-object_suits
returns-then-not-object_suits c = search (clear_unsuited, parents_part, objects_part)

pub returns : goal.returns
returns c = search (clear_taken, parents_part, objects_part)
