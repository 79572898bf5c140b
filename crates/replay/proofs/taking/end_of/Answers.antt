-- `replay::taking::end_of` meets its contract. Assumes nothing.
use Rattle.replay.proofs.TakingLaws.{end_last, end_next}
use Rattle.replay.proofs.taking.end_of.Goals as goal

pub returns-then-j-n : goal.returns-then-j-n
returns-then-j-n c = search end_last

pub returns : goal.returns
returns c = search end_next
