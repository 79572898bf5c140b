-- `values::cells::simple_of` meets its contract. Assumes nothing.
use Rattle.values.proofs.Scanning.{simple_bool, simple_int, simple_real, simple_obj}
use Rattle.values.proofs.cells.simple_of.Goals as goal

pub returns-in-0 : goal.returns-in-0
returns-in-0 c = search simple_bool

pub returns-in-Integer : goal.returns-in-Integer
returns-in-Integer c = search simple_int

pub returns-in-Real : goal.returns-in-Real
returns-in-Real c = search simple_real

pub returns-in_default : goal.returns-in_default
returns-in_default c = search simple_obj
