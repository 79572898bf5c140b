-- `three_bits` meets its contract.
use Rattle.types.proofs.Words.{bits_low, bits_high}
use Rattle.types.proofs.word.three_bits.Goals as goal

pub returns-then-k-lt8 : goal.returns-then-k-lt8
returns-then-k-lt8 c = rw c.from.ensures (bits_low _ c.if-k-lt8.true)

pub returns-else-k-lt8 : goal.returns-else-k-lt8
returns-else-k-lt8 c = bits_high _ c.if-k-lt8.false
