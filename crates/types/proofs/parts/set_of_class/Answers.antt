-- `set_of_class` meets its contract.
use mathlib.Core.Path.{refl}
use Rattle.types.specs.Flat.{layer, letter_of}
use Rattle.types.proofs.parts.set_of_class.Goals as goal

pub returns : goal.returns
unfolding layer letter_of
returns c = rw c.no_letter.ensures refl
