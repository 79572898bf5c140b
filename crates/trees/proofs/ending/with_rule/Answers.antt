-- `with_rule` meets its contract.
use Rattle.trees.specs.Rules.{ended_counts}
use mathlib.Core.Path.{refl}
use Rattle.trees.proofs.ending.with_rule.Goals as goal

pub returns : goal.returns
unfolding ended_counts
returns c = refl
