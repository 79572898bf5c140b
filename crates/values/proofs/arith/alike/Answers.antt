-- `values::arith::alike` meets its contract. Assumes nothing.
use Rattle.values.proofs.Arithmetic.{alike_is}
use Rattle.values.proofs.arith.alike.Goals as goal

pub returns : goal.returns
returns c = alike_is _ _
