-- `integer_at` meets its contract. The sign and the digits behind it are those that `integer` reads. Assumes nothing.
use mathlib.Core.Path.{◌∙◌}
use Rattle.text.proofs.IntegerLaws.{integer_read, integer_bad}
use Rattle.text.proofs.numbers.integer_at.Goals as goal

pub returns-then-plain : goal.returns-then-plain
returns-then-plain c = c.by_sign.ensures ∙ integer_read c.requires.ends c.minus_at-minuses.ensures c.plain.ensures c.if-plain.true c.requires.value

pub returns : goal.returns
returns c = search integer_bad
