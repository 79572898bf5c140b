-- `has_row` meets its contract. Assumes nothing.
use Rattle.outcomes.proofs.Lookups.{row_of}
use Rattle.outcomes.proofs.lookup.has_row.Goals as goal

pub returns : goal.returns
returns c = search row_of
