-- `operations::lookup::start_of` meets its contract. Assumes nothing.
use Rattle.outcomes.proofs.Lookups.{start_last, start_other}
use Rattle.outcomes.proofs.lookup.start_of.Goals as goal

pub returns-then-wide-j : goal.returns-then-wide-j
returns-then-wide-j c = search start_last

pub returns : goal.returns
returns c = search start_other
