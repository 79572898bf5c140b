-- `quantified` meets its contract.
use Rattle.shapes.proofs.HeldLaws.{quantifier_built}
use Rattle.shapes.proofs.built.quantified.Goals as goal

pub returns : goal.returns
returns c = search quantifier_built
