-- `operations::apply::unary_apply` meets its contract. Assumes nothing.
use native.Mathlib.Omega.{arith}
use Rattle.operations.proofs.OperationLaws.{any_model, unary_by, unary_7, unary_8, unary_9, unary_12}
use Rattle.operations.proofs.apply.unary_apply.Goals as goal
use Rattle.operations.proofs.apply.unary_apply.Goals.{in_default-via-then-form-lt7, in_default-via-else-form-lt7+else-form-lt12}

pub returns-in-7 : goal.returns-in-7
returns-in-7 c = unary_by _ _ (unary_7 _ _ c.in-7.is) (any_model c.negate.ensures)

pub returns-in-8 : goal.returns-in-8
returns-in-8 c = unary_by _ _ (unary_8 _ _ c.in-8.is) (any_model c.member_total.ensures)

pub returns-in-9-to-11 : goal.returns-in-9-to-11
returns-in-9-to-11 c = unary_by _ _ (unary_9 c.args.form c.args.c (omega arith) (omega arith)) (any_model c.change.ensures)

pub returns-in_default : goal.returns-in_default
returns-in_default c = unary_by _ _ (unary_12 _ _ (elim c.in_default.branch [ in_default-via-then-form-lt7 w ↦ omega arith | in_default-via-else-form-lt7+else-form-lt12 w ↦ omega arith ])) c.cast.ensures
