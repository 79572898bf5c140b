-- `number_of` meets its contract. Assumes nothing.
use native.Mathlib.Omega.{arith}
use Rattle.reals.proofs.Bits.{no_nan}
use Rattle.floats.proofs.Storing.{below_low, above_low, bits_finite, number_below, number_above, word_low, word_high}
use Rattle.floats.proofs.cells.number_of.Goals.{then-word-le-BELOW-via-then-word-le-BELOW, then-word-le-BELOW-via-else-word-le-BELOW+then-word-ge-ABOVE}
use Rattle.floats.proofs.cells.number_of.Goals as goal

pub returns-then-word-le-BELOW : goal.returns-then-word-le-BELOW
returns-then-word-le-BELOW c = elim c.then-word-le-BELOW.branch [
  | then-word-le-BELOW-via-then-word-le-BELOW w ↦ search word_low
  | then-word-le-BELOW-via-else-word-le-BELOW+then-word-ge-ABOVE w ↦ search word_high
]

pub float_from_bits-word : goal.float_from_bits-word
float_from_bits-word c = no_nan _ (below_low _ (omega arith))

pub hold-requires : goal.hold-requires
hold-requires c = bits_finite _ (omega arith) (below_low _ (omega arith))

pub float_from_bits-word-else-word-lt-SIGN : goal.float_from_bits-word-else-word-lt-SIGN
float_from_bits-word-else-word-lt-SIGN c = no_nan _ (above_low _ (omega arith))

pub hold-requires-else-word-lt-SIGN : goal.hold-requires-else-word-lt-SIGN
hold-requires-else-word-lt-SIGN c = bits_finite _ (omega arith) (above_low _ (omega arith))

pub returns-then-word-lt-SIGN : goal.returns-then-word-lt-SIGN
returns-then-word-lt-SIGN c = search number_below

pub returns-else-word-lt-SIGN : goal.returns-else-word-lt-SIGN
returns-else-word-lt-SIGN c = search number_above
