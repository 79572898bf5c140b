-- `slots::suits::base_suits` meets its contract. Assumes nothing.
use native.Mathlib.Omega.{arith}
use Rattle.slots.proofs.BaseLaws.{base_object, base_high, base_any, base_truth, base_integer, base_number}
use Rattle.slots.proofs.suits.base_suits.Goals as goal

pub returns-in-2-default : goal.returns-in-2-default
returns-in-2-default c = search base_object

pub returns-in-0-eq3 : goal.returns-in-0-eq3
returns-in-0-eq3 c = base_any _ c.sort_of.ensures c.tag.ensures (omega arith) c.in-0-eq3.is-1

pub returns-in-0-eq3-2 : goal.returns-in-0-eq3-2
returns-in-0-eq3-2 c = base_any _ c.sort_of.ensures c.tag.ensures (omega arith) c.in-0-eq3.is-1

pub returns-in-0-default : goal.returns-in-0-default
returns-in-0-default c = base_truth _ c.sort_of.ensures c.tag.ensures (λ e. omega arith) c.in-0-default.is-0

pub returns-in-1-eq2 : goal.returns-in-1-eq2
returns-in-1-eq2 c = base_integer _ c.sort_of.ensures c.tag.ensures (λ e. omega arith) (omega arith) (λ e. omega arith) c.in-1-eq2.is-1 c.is_integer.ensures

pub returns-in-1-default : goal.returns-in-1-default
returns-in-1-default c = base_number _ c.sort_of.ensures c.tag.ensures (λ e. omega arith) (omega arith) (λ e. omega arith) (λ e. omega arith)

pub returns-in_default : goal.returns-in_default
returns-in_default c = base_high _ c.sort_of.ensures (omega arith)
