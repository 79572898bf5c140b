-- `settled` meets its contract. Assumes nothing.
use Rattle.operations.proofs.NumberLaws.{result_sound, settled_is, settled_undefined, settled_over}
use Rattle.operations.proofs.widened.settled.Goals as goal

pub cell_of-requires : goal.cell_of-requires
cell_of-requires c = search result_sound

pub returns-in-Ok : goal.returns-in-Ok
returns-in-Ok c = search settled_is

pub returns-in-Err-Undefined : goal.returns-in-Err-Undefined
returns-in-Err-Undefined c = settled_undefined c.in-Err-Undefined.is (rw c.in-Err-Undefined.is at c.in-Err-Undefined.field-0-is)

pub returns-in-Err-OverRange : goal.returns-in-Err-OverRange
returns-in-Err-OverRange c = settled_over c.in-Err-OverRange.is (rw c.in-Err-OverRange.is at c.in-Err-OverRange.field-0-is)
