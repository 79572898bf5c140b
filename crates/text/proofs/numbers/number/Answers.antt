-- `number` meets its contract. The field is a number exactly if its digits end where it ends. Assumes nothing.
use mathlib.Core.Path.{◌∙◌, sym, ap}
use Rattle.text.specs.Numbers.{cut_num}
use Rattle.text.proofs.NumberLaws.{a_number_lem, not_a_number}
use Rattle.text.proofs.numbers.number.Goals as goal

pub returns-then-d-f : goal.returns-then-d-f
returns-then-d-f c = c.number_at.ensures ∙ ap cut_num (sym (a_number_lem c.digits_at-d.ensures.ends c.if-d-f.true))

pub returns : goal.returns
unfolding cut_num
returns c = sym (ap cut_num (not_a_number c.digits_at-d.ensures.ends c.if-d-f.false))
