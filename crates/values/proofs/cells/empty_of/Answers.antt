-- `values::cells::empty_of` meets its contract. Assumes nothing.
use Rattle.values.proofs.Scanning.{empty_of}
use Rattle.values.proofs.cells.empty_of.Goals as goal

pub returns : goal.returns
returns c = empty_of _
