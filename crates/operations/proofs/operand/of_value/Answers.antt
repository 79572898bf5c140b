-- `operations::operand::of_value` meets its contract. Assumes nothing.
use native.Mathlib.Omega.{arith}
use Rattle.operations.proofs.OperandLaws.{value_unary, value_is_undef, value_attribute, value_collect}
use Rattle.operations.proofs.operand.of_value.Goals as goal
use Rattle.operations.proofs.operand.of_value.Goals.{in_default-via-then-form-lt7, in_default-via-else-form-lt7+else-form-lt13}

pub returns-in-30 : goal.returns-in-30
returns-in-30 c = search value_is_undef

pub returns-in-33 : goal.returns-in-33
returns-in-33 c = search value_attribute

pub returns-in-7-to-12 : goal.returns-in-7-to-12
returns-in-7-to-12 c = search value_unary

pub returns-in_default : goal.returns-in_default
returns-in_default c = value_collect _ _ _ (elim c.in_default.branch [ in_default-via-then-form-lt7 w ↦ omega arith | in_default-via-else-form-lt7+else-form-lt13 w ↦ omega arith ]) (omega arith) (omega arith) c.collect.ensures
