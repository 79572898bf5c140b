-- `float_of` meets its contract. Assumes nothing.
use Rattle.floats.proofs.Casting.{int_narrow, of_int, of_real}
use Rattle.floats.proofs.numbers.float_of.Goals as goal

pub widen-requires : goal.widen-requires
widen-requires c = search int_narrow

pub returns-in-Integer : goal.returns-in-Integer
returns-in-Integer c = search of_int

pub returns-in-Real : goal.returns-in-Real
returns-in-Real c = search of_real
