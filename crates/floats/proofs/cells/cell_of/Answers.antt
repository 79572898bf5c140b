-- `cell_of` meets its contract. Assumes nothing.
use Rattle.floats.proofs.Storing.{float_number, bits_room, cell_plus, cell_minus}
use Rattle.floats.proofs.cells.cell_of.Goals as goal

pub float_to_bits-bits : goal.float_to_bits-bits
float_to_bits-bits c = search float_number

pub overflow_sub-result-else-bits-lt-SIGN : goal.overflow_sub-result-else-bits-lt-SIGN
overflow_sub-result-else-bits-lt-SIGN c = search bits_room

pub returns-then-bits-lt-SIGN : goal.returns-then-bits-lt-SIGN
returns-then-bits-lt-SIGN c = search cell_plus

pub returns-else-bits-lt-SIGN : goal.returns-else-bits-lt-SIGN
returns-else-bits-lt-SIGN c = search cell_minus
