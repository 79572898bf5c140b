-- `integer_cell` meets its contract. Assumes nothing.
use native.Mathlib.Omega.{arith}
use Rattle.floats.proofs.Casting.{in_float_lem}
use Rattle.floats.proofs.IntegerWords.{cast_number, cast_under, cast_room, cell_below, cell_above}
use Rattle.floats.proofs.cells.integer_cell.Goals as goal

pub int_to_float-result : goal.int_to_float-result
int_to_float-result c = in_float_lem _ (omega arith)

pub float_to_bits-result : goal.float_to_bits-result
float_to_bits-result c = cast_number _ (omega arith)

pub overflow_sub-result-then-biased-lt-ZERO : goal.overflow_sub-result-then-biased-lt-ZERO
overflow_sub-result-then-biased-lt-ZERO c = cast_under _ (omega arith)

pub int_to_float-result-else-biased-lt-ZERO : goal.int_to_float-result-else-biased-lt-ZERO
int_to_float-result-else-biased-lt-ZERO c = in_float_lem _ (omega arith)

pub float_to_bits-result-else-biased-lt-ZERO : goal.float_to_bits-result-else-biased-lt-ZERO
float_to_bits-result-else-biased-lt-ZERO c = cast_number _ (omega arith)

pub overflow_add-result : goal.overflow_add-result
overflow_add-result c = record { fits = cast_room _ (omega arith) }

pub returns-then-biased-lt-ZERO : goal.returns-then-biased-lt-ZERO
returns-then-biased-lt-ZERO c = search cell_below

pub returns-else-biased-lt-ZERO : goal.returns-else-biased-lt-ZERO
returns-else-biased-lt-ZERO c = search cell_above
