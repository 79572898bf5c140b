-- `values::arith::distance` meets its contract. Assumes nothing.
use Rattle.values.specs.Integers.{distance}
use Rattle.values.proofs.arith.distance.Goals as goal

pub returns : goal.returns
unfolding distance
returns c = c.abs_diff.ensures
