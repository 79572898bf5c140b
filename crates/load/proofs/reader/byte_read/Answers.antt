-- `byte_read` meets its contract. Assumes nothing.
use Rattle.load.proofs.Steps.{byte_ends, byte_more}
use Rattle.load.proofs.reader.byte_read.Goals as goal

pub returns-then-b-eq10 : goal.returns-then-b-eq10
returns-then-b-eq10 c = byte_ends c.if-b-eq10.true c.ended.ensures

pub returns : goal.returns
returns c = byte_more c.if-b-eq10.false c.with_byte-line.ensures
