-- `with_bit` meets its contract. Assumes nothing.
use Rattle.renewal.proofs.TouchedLaws.{bit_set, bit_left}
use Rattle.renewal.proofs.touched.with_bit.Goals as goal

pub returns-then-on : goal.returns-then-on
returns-then-on c = search bit_set

pub returns : goal.returns
returns c = search bit_left
