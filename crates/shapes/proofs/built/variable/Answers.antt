-- `variable` meets its contract.
use Rattle.shapes.proofs.HeldLaws.{variable_built}
use Rattle.shapes.proofs.built.variable.Goals as goal

pub returns : goal.returns
returns c = search variable_built
