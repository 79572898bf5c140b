-- `first_byte` meets its contract. Assumes nothing.
use Rattle.load.proofs.Lines.{first_bad, first_digit}
use Rattle.load.proofs.line.first_byte.Goals as goal

pub returns-then-byte_kind-ne-DIGIT : goal.returns-then-byte_kind-ne-DIGIT
returns-then-byte_kind-ne-DIGIT c = search first_bad

pub returns : goal.returns
returns c = search first_digit
