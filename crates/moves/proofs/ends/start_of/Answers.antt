-- `start_of` meets its contract. Assumes nothing.
use Rattle.moves.proofs.JoinedLaws.{start_first, start_later}
use Rattle.moves.proofs.ends.start_of.Goals as goal

pub returns-then-r-eq0 : goal.returns-then-r-eq0
returns-then-r-eq0 c = search start_first

pub returns : goal.returns
returns c = search start_later
