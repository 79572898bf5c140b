-- `binary_type` meets its contract. Assumes nothing.
use mathlib.Core.Path.{refl}
use native.Mathlib.Omega.{arith}
use Rattle.ocl.specs.Types.{Boolean}
use Rattle.ocl.specs.Typing.{scale_type}
use Rattle.judgements.proofs.Binaries.{equal_binary, less_binary, arith_binary, divide_binary, over_binary, includes_binary, including_binary, union_binary}
use Rattle.judgements.proofs.binary.binary_type.Goals as goal
use Rattle.judgements.proofs.binary.binary_type.Goals.{in_default-via-then-form-lt13, in_default-via-else-form-lt13+else-form-lt18+else-form-lt20}

pub returns-in-13 : goal.returns-in-13
returns-in-13 c = λ m e. equal_binary m _ _ _ _ c.in-13.is (c.comparable.ensures m e)

pub returns-in-14 : goal.returns-in-14
returns-in-14 c = λ m e. less_binary m _ _ _ _ c.in-14.is (c.on_numbers.ensures m e (λ x. Boolean) refl refl)

pub returns-in-20 : goal.returns-in-20
returns-in-20 c = λ m e. includes_binary m _ _ _ _ c.in-20.is (c.includes_type.ensures m e)

pub returns-in-21 : goal.returns-in-21
returns-in-21 c = λ m e. including_binary m _ _ _ _ c.in-21.is (c.including_type.ensures m e)

pub returns-in-37 : goal.returns-in-37
returns-in-37 c = λ m e. over_binary m _ _ _ _ c.in-37.is c.plain.ensures c.plain-in-37.ensures (c.both_below.ensures m e)

pub returns-in-15-to-17 : goal.returns-in-15-to-17
unfolding scale_type
returns-in-15-to-17 c = λ m e. arith_binary m _ _ _ _ (omega arith) (omega arith) (c.on_numbers-in-15-to-17.ensures m e scale_type refl refl)

pub returns-in-18-to-19 : goal.returns-in-18-to-19
returns-in-18-to-19 c = λ m e. divide_binary m _ _ _ _ (omega arith) (omega arith) c.plain-in-18-to-19.ensures c.plain-in-18-to-19-2.ensures (c.both_below-in-18-to-19.ensures m e)

pub returns-in_default : goal.returns-in_default
returns-in_default c = λ m e. union_binary m _ _ _ _ (elim c.in_default.branch [ in_default-via-then-form-lt13 w ↦ omega arith | in_default-via-else-form-lt13+else-form-lt18+else-form-lt20 w ↦ omega arith ]) (elim c.in_default.branch [ in_default-via-then-form-lt13 w ↦ omega arith | in_default-via-else-form-lt13+else-form-lt18+else-form-lt20 w ↦ omega arith ]) (c.union_type.ensures m e)
