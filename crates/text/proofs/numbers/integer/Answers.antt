-- `integer` meets its contract. The field is an Integer exactly if its digits end where it ends. Assumes nothing.
use mathlib.Core.Path.{◌∙◌, sym, ap}
use Rattle.text.specs.Numbers.{whole_of}
use Rattle.text.proofs.IntegerLaws.{an_integer_lem, not_an_integer}
use Rattle.text.proofs.numbers.integer.Goals as goal

pub returns-then-d-f : goal.returns-then-d-f
returns-then-d-f c = c.integer_at.ensures ∙ ap whole_of (sym (an_integer_lem c.integer_digits-d.ensures.ends c.if-d-f.true))

pub returns : goal.returns
unfolding whole_of
returns c = sym (ap whole_of (not_an_integer c.integer_digits-d.ensures.ends c.if-d-f.false))
