-- `cast` meets its contract.
use Rattle.shapes.proofs.HeldLaws.{cast_built}
use Rattle.shapes.proofs.built.cast.Goals as goal

pub returns : goal.returns
returns c = search cast_built
