-- `staying_size` meets its contract. Assumes nothing.
use Rattle.moves.proofs.JoinedLaws.{no_size, some_size}
use Rattle.moves.proofs.ends.staying_size.Goals as goal

pub returns-then-has_bit : goal.returns-then-has_bit
returns-then-has_bit c = search no_size

pub returns : goal.returns
returns c = search some_size
