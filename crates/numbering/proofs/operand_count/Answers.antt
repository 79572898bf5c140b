-- `operand_count` meets its contract. Assumes nothing.
use native.Mathlib.Omega.{arith}
use Rattle.numbering.proofs.Codes.{no_form, leaf_count, unary_count, binary_count, quantified_count, coll_count, late_is}
use Rattle.numbering.proofs.operand_count.Goals as goal

pub returns-in-7-to-12 : goal.returns-in-7-to-12
returns-in-7-to-12 c = unary_count _ _ (omega arith) (omega arith) (omega arith)

pub returns-in-7-to-12-2 : goal.returns-in-7-to-12-2
returns-in-7-to-12-2 c = quantified_count _ _ (omega arith) (omega arith) (omega arith)

pub returns-in-13-to-24 : goal.returns-in-13-to-24
returns-in-13-to-24 c = binary_count _ _ (omega arith) (omega arith) (omega arith)

pub returns-in-27-to-29 : goal.returns-in-27-to-29
returns-in-27-to-29 c = coll_count _ _ (omega arith) (omega arith) (omega arith) c.member_count.ensures

pub returns-in-30-to-37 : goal.returns-in-30-to-37
returns-in-30-to-37 c = late_is _ _ (omega arith) (omega arith) c.late_count.ensures

pub returns-in_default : goal.returns-in_default
returns-in_default c = leaf_count _ _ (omega arith) (omega arith)

pub returns-in_default-2 : goal.returns-in_default-2
returns-in_default-2 c = no_form _ _ (omega arith)
