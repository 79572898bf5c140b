-- `plain` meets its contract.
use Rattle.shapes.proofs.FormLaws.{plain_built}
use Rattle.shapes.proofs.built.plain.Goals as goal

pub returns : goal.returns
returns c = search plain_built
