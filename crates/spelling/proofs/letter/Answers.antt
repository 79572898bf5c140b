-- `letter` meets its contract. Assumes nothing.
use Rattle.spelling.proofs.LeafLaws.{letter_set, letter_sequence, letter_bag}
use Rattle.spelling.proofs.letter.Goals as goal

pub returns-in-3 : goal.returns-in-3
returns-in-3 c k e = letter_set k c.in-3.is e

pub returns-in-4 : goal.returns-in-4
returns-in-4 c k e = letter_sequence k c.in-4.is e

pub returns-in_default : goal.returns-in_default
returns-in_default c k e = letter_bag k c.in_default.in_default-own.rest.0.1 c.in_default.in_default-own.rest.1 e
