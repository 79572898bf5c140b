-- `call` meets its contract.
use Rattle.shapes.proofs.HeldLaws.{call_built}
use Rattle.shapes.proofs.built.call.Goals as goal

pub returns : goal.returns
returns c = search call_built
