-- `word_in` meets its contract. Assumes nothing.
use Rattle.floats.proofs.Storing.{zero_low, zero_high, word_stays}
use Rattle.floats.proofs.cells.word_in.Goals.{then-word-le-BELOW-via-then-word-le-BELOW, then-word-le-BELOW-via-else-word-le-BELOW+then-word-ge-ABOVE}
use Rattle.floats.proofs.cells.word_in.Goals as goal

pub returns-then-word-le-BELOW : goal.returns-then-word-le-BELOW
returns-then-word-le-BELOW c = elim c.then-word-le-BELOW.branch [
  | then-word-le-BELOW-via-then-word-le-BELOW w ↦ search zero_low
  | then-word-le-BELOW-via-else-word-le-BELOW+then-word-ge-ABOVE w ↦ search zero_high
]

pub returns : goal.returns
returns c = search word_stays
