-- `replay::value::simple_cell` meets its contract. Assumes nothing.
use Rattle.replay.proofs.CellLaws.{simple_low, simple_number, simple_object}
use Rattle.replay.proofs.value.simple_cell.Goals as goal

pub returns-then-cell-lt-NUMBERS : goal.returns-then-cell-lt-NUMBERS
returns-then-cell-lt-NUMBERS c = search simple_low

pub returns-then-cell-lt-OBJECTS : goal.returns-then-cell-lt-OBJECTS
returns-then-cell-lt-OBJECTS c = search simple_number

pub returns : goal.returns
returns c = search simple_object
