-- `with_definition` meets its contract.
use mathlib.Core.Path.{refl}
use Rattle.trees.specs.Rules.{defined_counts}
use Rattle.trees.proofs.ending.with_definition.Goals as goal

pub returns : goal.returns
unfolding defined_counts
returns c = refl
