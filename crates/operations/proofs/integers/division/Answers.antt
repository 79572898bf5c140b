-- `division` meets its contract. Assumes nothing.
use Rattle.operations.proofs.NumberLaws.{whole_narrow, ints_left, ints_right, divide_done}
use Rattle.operations.proofs.integers.division.Goals as goal

pub returns-in_default : goal.returns-in_default
returns-in_default c = search ints_left

pub returns-in_default-integer_in : goal.returns-in_default-integer_in
returns-in_default-integer_in c = search ints_right

pub divide-requires : goal.divide-requires
divide-requires c = search whole_narrow

pub returns : goal.returns
returns c = search divide_done
