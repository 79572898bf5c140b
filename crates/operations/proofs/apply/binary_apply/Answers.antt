-- `binary_apply` meets its contract. Assumes nothing.
use native.Mathlib.Omega.{arith}
use Rattle.operations.proofs.BinaryLaws.{any_mark, binary_by, binary_13, binary_14, binary_15, binary_18, binary_20, binary_21, binary_22, binary_37}
use Rattle.operations.proofs.NumberLaws.{by_division, by_over}
use Rattle.operations.proofs.apply.binary_apply.Goals as goal
use Rattle.operations.proofs.apply.binary_apply.Goals.{in_default-via-then-form-lt13, in_default-via-else-form-lt13+else-form-lt18+else-form-lt20}

pub returns-in-13 : goal.returns-in-13
returns-in-13 c = binary_by _ (binary_13 c.in-13.is) (any_mark c.same_value.ensures)

pub returns-in-14 : goal.returns-in-14
returns-in-14 c = search (binary_by, binary_14)

pub returns-in-20 : goal.returns-in-20
returns-in-20 c = binary_by _ (binary_20 c.in-20.is) (any_mark c.contains.ensures)

pub returns-in-21 : goal.returns-in-21
returns-in-21 c = binary_by _ (binary_21 c.in-21.is) (any_mark c.including.ensures)

pub returns-in-37 : goal.returns-in-37
returns-in-37 c = binary_by _ (binary_37 c.in-37.is) (any_mark (by_over c.operation.ensures))

pub returns-in-15-to-17 : goal.returns-in-15-to-17
returns-in-15-to-17 c = binary_by _ (binary_15 (omega arith) (omega arith)) c.calculation.ensures

pub returns-in-18-to-19 : goal.returns-in-18-to-19
returns-in-18-to-19 c = binary_by _ (binary_18 (omega arith) (omega arith)) (any_mark (by_division _ c.division.ensures))

pub returns-in_default : goal.returns-in_default
returns-in_default c = binary_by _ (binary_22 (elim c.in_default.branch [ in_default-via-then-form-lt13 w ↦ omega arith | in_default-via-else-form-lt13+else-form-lt18+else-form-lt20 w ↦ omega arith ]) (omega arith)) (any_mark c.united.ensures)
