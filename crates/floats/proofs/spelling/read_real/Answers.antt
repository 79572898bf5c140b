-- `read_real` meets its contract: the digits read so far and those behind them stand for what all of them stand for. Assumes nothing.
use Rattle.floats.proofs.Reading.{other_length, other_letter, other_digit, all_digits, read_times, read_plus, read_next, sixteen}
use Rattle.floats.proofs.spelling.read_real.Goals.{then-text-ne-REAL_BYTES-via-then-text-ne-REAL_BYTES, then-text-ne-REAL_BYTES-via-else-text-ne-REAL_BYTES+then-text-ne114}
use Rattle.floats.proofs.spelling.read_real.Goals as goal

pub returns-then-text-ne-REAL_BYTES : goal.returns-then-text-ne-REAL_BYTES
returns-then-text-ne-REAL_BYTES c = elim c.then-text-ne-REAL_BYTES.branch [
  | then-text-ne-REAL_BYTES-via-then-text-ne-REAL_BYTES w ↦ search other_length
  | then-text-ne-REAL_BYTES-via-else-text-ne-REAL_BYTES+then-text-ne114 w ↦ search other_letter
]

pub returns-then-d-eq16 : goal.returns-then-d-eq16
returns-then-d-eq16 c = search other_digit

pub overflow_mul-bits : goal.overflow_mul-bits
overflow_mul-bits c = search (read_times, sixteen)

pub overflow_add-bits : goal.overflow_add-bits
overflow_add-bits c = search (read_plus, sixteen)

pub loop-c-preserved : goal.loop-c-preserved
loop-c-preserved c = search read_next

pub returns : goal.returns
returns c = search all_digits
