-- `calculated` meets its contract. Assumes nothing.
use Rattle.operations.proofs.NumberLaws.{calculated_is, calculated_undefined, calculated_over}
use Rattle.operations.proofs.integers.calculated.Goals as goal

pub returns-in-Ok : goal.returns-in-Ok
returns-in-Ok c = search calculated_is

pub returns-in-Err-Undefined : goal.returns-in-Err-Undefined
returns-in-Err-Undefined c = calculated_undefined c.in-Err-Undefined.is (rw c.in-Err-Undefined.is at c.in-Err-Undefined.field-0-is)

pub returns-in-Err-OverRange : goal.returns-in-Err-OverRange
returns-in-Err-OverRange c = calculated_over c.in-Err-OverRange.is (rw c.in-Err-OverRange.is at c.in-Err-OverRange.field-0-is)
