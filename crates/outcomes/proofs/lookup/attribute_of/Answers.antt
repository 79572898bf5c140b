-- `attribute_of` meets its contract. Assumes nothing.
use native.Mathlib.Omega.{arith}
use Rattle.outcomes.proofs.Lookups.{slot_within, attribute_other, attribute_none, attribute_some}
use Rattle.outcomes.proofs.lookup.attribute_of.Goals as goal

pub returns-in_default : goal.returns-in_default
returns-in_default c = search attribute_none

pub bring-requires : goal.bring-requires
bring-requires c = omega (arith, slot_within _ _ _ _ c.row_slot.ensures c.in-Some.is)

pub returns-in-Some : goal.returns-in-Some
returns-in-Some c = search attribute_some

pub returns-else-has_row : goal.returns-else-has_row
returns-else-has_row c = search attribute_other
