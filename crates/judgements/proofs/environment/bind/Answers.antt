-- `bind` meets its contract. Assumes nothing.
use Rattle.judgements.proofs.Environments.{env_set}
use borrow.Author.Rules.{rules}
use Rattle.judgements.proofs.environment.bind.Goals as goal

pub returns : goal.returns
returns c = env_set c.args.env _ _ (search rules) (search rules) c.requires
