-- `digit_of` meets its contract. Assumes nothing.
use Rattle.floats.proofs.Reading.{value_decimal, value_letter, value_low, value_between, value_high}
use Rattle.floats.proofs.spelling.digit_of.Goals as goal

pub returns-in-48-to-57 : goal.returns-in-48-to-57
returns-in-48-to-57 c = rw c.from.ensures (search value_decimal)

pub returns-in-97-to-102 : goal.returns-in-97-to-102
returns-in-97-to-102 c = rw c.from-in-97-to-102.ensures (search value_letter)

pub returns-in_default : goal.returns-in_default
returns-in_default c = search value_low

pub returns-in_default-2 : goal.returns-in_default-2
returns-in_default-2 c = search value_between

pub returns-in_default-3 : goal.returns-in_default-3
returns-in_default-3 c = search value_high
