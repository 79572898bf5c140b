-- `integer_in` meets its contract. Assumes nothing.
use Rattle.floats.proofs.Holding.{plus_room, minus_room}
use Rattle.floats.proofs.IntegerWords.{below_int, below_no, below_far, above_int, above_no, above_far}
use Rattle.floats.proofs.cells.integer_in.Goals as goal

pub overflow_sub-result : goal.overflow_sub-result
overflow_sub-result c = search minus_room

pub returns-in-Some : goal.returns-in-Some
returns-in-Some c = search below_int

pub overflow_add-result : goal.overflow_add-result
overflow_add-result c = search plus_room

pub returns-in-Some-whole : goal.returns-in-Some-whole
returns-in-Some-whole c = search above_int

pub returns-in_default : goal.returns-in_default
returns-in_default c = search below_no

pub returns-else-size-le-RANGE : goal.returns-else-size-le-RANGE
returns-else-size-le-RANGE c = search below_far

pub returns-in_default-whole : goal.returns-in_default-whole
returns-in_default-whole c = search above_no

pub returns-else-size-lt-RANGE : goal.returns-else-size-lt-RANGE
returns-else-size-lt-RANGE c = search above_far
