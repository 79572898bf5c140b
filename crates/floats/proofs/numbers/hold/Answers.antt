-- `hold` meets its contract. Assumes nothing.
use Rattle.reals.proofs.Bits.{finite_number}
use Rattle.floats.proofs.Holding.{plus_room, minus_room, plus_int, minus_int, plus_no, plus_far, minus_no, minus_far}
use Rattle.floats.proofs.numbers.hold.Goals as goal

pub float_to_bits-bits : goal.float_to_bits-bits
float_to_bits-bits c = search finite_number

pub overflow_add-result : goal.overflow_add-result
overflow_add-result c = search plus_room

pub returns-in-Some : goal.returns-in-Some
returns-in-Some c = search plus_int

pub overflow_sub-result : goal.overflow_sub-result
overflow_sub-result c = search minus_room

pub returns-in-Some-whole : goal.returns-in-Some-whole
returns-in-Some-whole c = search minus_int

pub returns-in_default : goal.returns-in_default
returns-in_default c = search plus_no

pub returns-else-bits-lt-RANGE : goal.returns-else-bits-lt-RANGE
returns-else-bits-lt-RANGE c = search plus_far

pub returns-in_default-whole : goal.returns-in_default-whole
returns-in_default-whole c = search minus_no

pub returns-else-size-le-RANGE : goal.returns-else-size-le-RANGE
returns-else-size-le-RANGE c = search minus_far
