-- `parent` meets its contract: the word of a class that is off the table, in order, or over its class.
use native.Mathlib.Omega.{arith}
use mathlib.Core.Path.{◌∙◌}
use Rattle.types.proofs.Parents.{parent_off, parent_is, parent_not}
use Rattle.types.proofs.classes.parent.Goals as goal

pub returns-in-Some : goal.returns-in-Some
returns-in-Some c = let v = c.in-Some.ensures.lookup.3.1 0 in v ∙ parent_is _ _ _ c.wide.ensures (omega (arith, v))

pub returns-in_default : goal.returns-in_default
returns-in_default c = let v = c.in-Some.ensures.lookup.3.1 0 in parent_not _ _ _ c.wide.ensures (omega (arith, v))

pub returns-in_default-2 : goal.returns-in_default-2
returns-in_default-2 c = let z = rw c.in_default.is at c.get.ensures.lookup in parent_off _ _ (omega (arith, z.3))
