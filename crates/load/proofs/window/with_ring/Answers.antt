-- `with_ring` meets its contract. Assumes nothing.
use mathlib.Core.Path.{refl}
use Rattle.load.proofs.window.with_ring.Goals as goal

pub returns : goal.returns
returns c = refl
