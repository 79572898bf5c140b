-- `values::cells::sort_of` meets its contract. Assumes nothing.
use Rattle.values.proofs.Scanning.{sort_low, sort_middle, sort_high}
use Rattle.values.proofs.cells.sort_of.Goals as goal

pub returns-then-cell-lt-NUMBERS : goal.returns-then-cell-lt-NUMBERS
returns-then-cell-lt-NUMBERS c = search sort_low

pub returns-then-cell-lt-OBJECTS : goal.returns-then-cell-lt-OBJECTS
returns-then-cell-lt-OBJECTS c = search sort_middle

pub returns-else-cell-lt-OBJECTS : goal.returns-else-cell-lt-OBJECTS
returns-else-cell-lt-OBJECTS c = search sort_high
