-- `put_number` meets its contract. All but the last k digits are written, and what is left is spelled by these. Assumes nothing.
use borrow.Author.Rules.{rules}
use Rattle.text.proofs.DigitLaws.{powers, are_powers, number_none, number_place, number_lead, number_room, number_next, number_long, number_all}
use Rattle.text.proofs.spelling.put_number.Goals as goal

pub loop-k-init : goal.loop-k-init
unfolding powers
loop-k-init c = (are_powers, search (number_none, rules))

pub bounds-powers-k : goal.bounds-powers-k
bounds-powers-k c = search number_place

pub leading-lead-requires : goal.leading-lead-requires
leading-lead-requires c = search number_lead

pub put_byte-e-requires : goal.put_byte-e-requires
put_byte-e-requires c = search number_room

pub loop-k-preserved : goal.loop-k-preserved
loop-k-preserved c = (search rules, search number_next)

pub shape_of-out : goal.shape_of-out
shape_of-out c = search number_long

pub returns : goal.returns
returns c = search number_all
