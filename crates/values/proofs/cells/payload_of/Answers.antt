-- `values::cells::payload_of` meets its contract. Assumes nothing.
use Rattle.values.proofs.Scanning.{payload_of}
use Rattle.values.proofs.cells.payload_of.Goals as goal

pub returns : goal.returns
returns c = payload_of _
