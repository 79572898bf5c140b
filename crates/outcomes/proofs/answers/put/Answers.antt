-- `operations::answers::put` meets its contract. Assumes nothing.
use Rattle.outcomes.proofs.Words.{gives_simple}
use Rattle.outcomes.proofs.answers.put.Goals as goal

pub returns : goal.returns
returns c = search gives_simple
