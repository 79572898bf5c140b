-- `line_number` meets its contract. Assumes nothing.
use Rattle.load.proofs.Steps.{number_first, number_length}
use Rattle.load.proofs.reader.line_number.Goals as goal

pub returns-then-t-eq0 : goal.returns-then-t-eq0
returns-then-t-eq0 c = search number_first

pub returns : goal.returns
returns c = search number_length
