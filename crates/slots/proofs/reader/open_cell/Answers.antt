-- `slots::reader::open_cell` meets its contract. Assumes nothing.
use Rattle.slots.proofs.CellLaws.{opened_cell}
use Rattle.slots.proofs.reader.open_cell.Goals as goal

pub returns : goal.returns
returns c = search opened_cell
