-- `put_byte` meets its contract. One store is one byte written. Assumes nothing.
use Rattle.text.proofs.WrittenLaws.{byte_puts}
use Rattle.text.proofs.spelling.put_byte.Goals as goal

pub returns : goal.returns
returns c = byte_puts _ _ _ c.requires
