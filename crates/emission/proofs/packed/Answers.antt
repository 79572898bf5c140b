-- `packed` meets its contract.
use Rattle.emission.specs.Nodes.{packed}
use Rattle.emission.proofs.NodeLaws.{sum_is}
use Rattle.emission.proofs.packed.Goals as goal

pub returns : goal.returns
unfolding packed
returns c = sum_is _ _ _ _ c.from.ensures c.from-2.ensures
