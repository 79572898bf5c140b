-- `slots::suits::object_in` meets its contract. Assumes nothing.
use Rattle.slots.proofs.BaseLaws.{in_class, in_other, in_any}
use mathlib.Core.Path.{◌∙◌}
use native.Mathlib.Omega.{arith}
use Rattle.slots.proofs.suits.object_in.Goals as goal

pub returns-in-5 : goal.returns-in-5
returns-in-5 c = in_class _ c.tag.ensures c.in-5.is (c.from.ensures ∙ c.class_in.ensures) c.object_suits.ensures

pub returns-in-3 : goal.returns-in-3
returns-in-3 c = search in_any

pub returns-in_default : goal.returns-in_default
returns-in_default c = in_other _ c.tag.ensures (λ e. omega arith) (λ e. omega arith)
