-- `row_slot` meets its contract. Assumes nothing.
use Rattle.outcomes.proofs.Lookups.{slot_of}
use Rattle.outcomes.proofs.lookup.row_slot.Goals as goal

pub returns : goal.returns
returns c = search slot_of
