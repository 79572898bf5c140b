-- `by_reals` meets its contract. Assumes nothing.
use Rattle.operations.proofs.NumberLaws.{goes_by}
use Rattle.operations.proofs.apply.by_reals.Goals as goal

pub returns : goal.returns
returns c = goes_by _
