-- `calculate` meets its contract. Assumes nothing.
use Rattle.floats.proofs.Settling.{plus_number, minus_number, times_number, over_number, does_plus, does_minus, does_times, does_over, does_undefined}
use Rattle.floats.proofs.numbers.calculate.Goals as goal

pub settle-requires : goal.settle-requires
settle-requires c = search plus_number

pub settle-requires-in-1 : goal.settle-requires-in-1
settle-requires-in-1 c = search minus_number

pub settle-requires-in-2 : goal.settle-requires-in-2
settle-requires-in-2 c = search times_number

pub settle-requires-else-y : goal.settle-requires-else-y
settle-requires-else-y c = search over_number

pub returns-in-0 : goal.returns-in-0
returns-in-0 c = search does_plus

pub returns-in-1 : goal.returns-in-1
returns-in-1 c = search does_minus

pub returns-in-2 : goal.returns-in-2
returns-in-2 c = search does_times

pub returns-then-y : goal.returns-then-y
returns-then-y c = search does_undefined

pub returns-else-y : goal.returns-else-y
returns-else-y c = search does_over
