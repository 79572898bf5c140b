-- `values::cells::is_integer` meets its contract. Assumes nothing.
use Rattle.values.proofs.Scanning.{integer_yes, integer_no}
use Rattle.values.proofs.cells.is_integer.Goals as goal

pub returns-in-Some : goal.returns-in-Some
returns-in-Some c = integer_yes c.integer_in.ensures c.in-Some.is

pub returns-in_default : goal.returns-in_default
returns-in_default c = integer_no c.integer_in.ensures c.in_default.is
