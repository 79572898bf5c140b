-- `slots::reader::header` meets its contract. Assumes nothing.
use Rattle.slots.proofs.CountLaws.{header_first, header_second, header_third}
use Rattle.slots.proofs.reader.header.Goals as goal

pub returns-in-1 : goal.returns-in-1
returns-in-1 c = search header_first

pub returns-in-2 : goal.returns-in-2
returns-in-2 c = search header_second

pub returns-in_default : goal.returns-in_default
returns-in_default c = search header_third
