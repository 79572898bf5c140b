-- `assembled` meets its contract.
use Rattle.shapes.proofs.LiteralLaws.{assemble_built}
use Rattle.shapes.proofs.built.assembled.Goals as goal

pub returns : goal.returns
returns c = search assemble_built
