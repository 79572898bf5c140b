-- `start_env` meets its contract. Assumes nothing.
use Rattle.judgements.proofs.Environments.{start_env}
use Rattle.judgements.proofs.environment.start_env.Goals as goal

pub returns : goal.returns
returns c = search start_env
