-- `fits_scale` meets its contract. Assumes nothing.
use Rattle.operations.proofs.NumberLaws.{scale_reals}
use Rattle.operations.proofs.apply.fits_scale.Goals as goal

pub returns-then-by_reals : goal.returns-then-by_reals
returns-then-by_reals c = search scale_reals
