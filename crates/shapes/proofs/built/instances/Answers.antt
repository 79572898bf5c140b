-- `instances` meets its contract.
use Rattle.shapes.proofs.HeldLaws.{all_built}
use Rattle.shapes.proofs.built.instances.Goals as goal

pub returns : goal.returns
returns c = search all_built
