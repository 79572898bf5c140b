-- `byte_of` meets its contract. Assumes nothing.
use Rattle.reals.proofs.Digits.{byte_decimal, byte_letter}
use Rattle.floats.proofs.spelling.byte_of.Goals as goal

pub returns-then-digit-lt10 : goal.returns-then-digit-lt10
returns-then-digit-lt10 c = search byte_decimal

pub returns-else-digit-lt10 : goal.returns-else-digit-lt10
returns-else-digit-lt10 c = search byte_letter
