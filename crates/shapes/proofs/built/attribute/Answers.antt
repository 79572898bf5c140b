-- `attribute` meets its contract.
use Rattle.shapes.proofs.HeldLaws.{attribute_built}
use Rattle.shapes.proofs.built.attribute.Goals as goal

pub returns : goal.returns
returns c = search attribute_built
