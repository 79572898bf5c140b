-- `values::arith::divide` meets its contract. Assumes nothing.
use native.Mathlib.Omega.{arith}
use Rattle.values.proofs.Arithmetic.{division_0, division_1, divided_by}
use Rattle.values.proofs.arith.divide.Goals as goal

pub returns-in-0 : goal.returns-in-0
returns-in-0 c = divided_by (division_0 (omega arith)) c.div.ensures

pub returns-in_default : goal.returns-in_default
returns-in_default c = divided_by (division_1 _ (omega arith)) c.modulo.ensures
