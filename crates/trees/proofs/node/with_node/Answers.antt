-- `with_node` meets its contract.
use Rattle.trees.specs.Rules.{node_counts}
use mathlib.Core.Path.{refl}
use Rattle.trees.proofs.node.with_node.Goals as goal

pub returns : goal.returns
unfolding node_counts
returns c = refl
