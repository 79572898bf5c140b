-- `number_at` meets its contract. The digits between the two positions are those that `number` reads. Assumes nothing.
use Rattle.text.proofs.NumberLaws.{number_read, number_bad}
use Rattle.text.proofs.numbers.number_at.Goals as goal

pub returns-then-plain : goal.returns-then-plain
returns-then-plain c = search number_read

pub returns : goal.returns
returns c = search number_bad
