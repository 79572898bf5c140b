-- `put_real` meets its contract: the bytes of the spelling. Assumes nothing.
use Rattle.text.proofs.WrittenLaws.{puts_real}
use Rattle.text.proofs.spelling.put_real.Goals as goal

pub returns : goal.returns
returns c = search puts_real
