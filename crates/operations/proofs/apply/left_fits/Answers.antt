-- `left_fits` meets its contract. Assumes nothing.
use native.Mathlib.Omega.{arith}
use Rattle.operations.proofs.BinaryLaws.{left_any, left_scale, left_int, left_num, left_coll}
use Rattle.operations.proofs.apply.left_fits.Goals as goal
use Rattle.operations.proofs.apply.left_fits.Goals.{in_default-via-then-form-lt13, in_default-via-else-form-lt13+else-form-lt18+else-form-lt20}

pub returns-in-13 : goal.returns-in-13
returns-in-13 c = search left_any

pub returns-in-37 : goal.returns-in-37
returns-in-37 c = search left_num

pub returns-in-14-to-17 : goal.returns-in-14-to-17
returns-in-14-to-17 c = left_scale (omega arith) (omega arith) c.fits_scale.ensures

pub returns-in-18-to-19 : goal.returns-in-18-to-19
returns-in-18-to-19 c = search left_int

pub returns-in_default : goal.returns-in_default
returns-in_default c = left_coll (elim c.in_default.branch [ in_default-via-then-form-lt13 w ↦ omega arith | in_default-via-else-form-lt13+else-form-lt18+else-form-lt20 w ↦ omega arith ]) (omega arith) c.sort_of-in_default.ensures
