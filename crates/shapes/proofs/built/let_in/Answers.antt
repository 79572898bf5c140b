-- `let_in` meets its contract.
use Rattle.shapes.proofs.HeldLaws.{let_built}
use Rattle.shapes.proofs.built.let_in.Goals as goal

pub returns : goal.returns
returns c = search let_built
