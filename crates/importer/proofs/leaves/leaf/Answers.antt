-- `leaf` meets its contract.
use Rattle.laws.specs.Choice.{map_some}
use Rattle.importer.proofs.LeafLaws.{self_leaf, constant_leaf, no_leaf}
use native.Mathlib.Omega.{arith}
use Rattle.importer.proofs.leaves.leaf.Goals as goal

pub returns-in-4 : goal.returns-in-4
returns-in-4 c = search self_leaf

pub returns-in-0-to-2 : goal.returns-in-0-to-2
returns-in-0-to-2 c = search constant_leaf

pub returns-in_default : goal.returns-in_default
unfolding map_some
returns-in_default c = rw (no_leaf c.requires (omega arith) (omega arith) (omega arith)) (c.misspelled.ensures _)
