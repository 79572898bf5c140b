-- `rules::evaluated::evaluate_numbered` meets its contract. Assumes nothing.
use Rattle.rules.proofs.Evaluations.{evaluates_numbered}
use Rattle.rules.proofs.evaluated.evaluate_numbered.Goals as goal

pub returns : goal.returns
returns c = search evaluates_numbered
