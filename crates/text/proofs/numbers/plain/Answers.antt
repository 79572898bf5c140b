-- `plain` meets its contract. By the number of digits, then by the first. Assumes nothing.
use Rattle.text.proofs.NumberLaws.{plain_none, plain_one, plain_more}
use Rattle.text.proofs.numbers.plain.Goals as goal

pub returns-else-a-e : goal.returns-else-a-e
returns-else-a-e c = plain_none _ _ _ c.requires.1 c.if-a-e.false

pub returns-then-a-e-2 : goal.returns-then-a-e-2
returns-then-a-e-2 c = plain_one _ _ _ c.requires.1 c.if-a-e-2.true

pub returns-else-a-e-2 : goal.returns-else-a-e-2
returns-else-a-e-2 c = plain_more _ _ _ c.requires.1 c.if-a-e.true c.if-a-e-2.false
