-- `tally_of` meets its contract. Assumes nothing.
use mathlib.Core.Path.{refl}
use Rattle.load.proofs.window.tally_of.Goals as goal

pub returns : goal.returns
returns c = refl
