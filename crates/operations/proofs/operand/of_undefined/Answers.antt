-- `operations::operand::of_undefined` meets its contract. Assumes nothing.
use Rattle.operations.proofs.OperandLaws.{undefined_known, undefined_still}
use Rattle.operations.proofs.operand.of_undefined.Goals as goal

pub returns-then-form-eq-IS_UNDEF : goal.returns-then-form-eq-IS_UNDEF
returns-then-form-eq-IS_UNDEF c = search undefined_known

pub returns : goal.returns
returns c = search undefined_still
