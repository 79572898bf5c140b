-- `root_type` meets its contract. Assumes nothing.
use Rattle.typing.proofs.RuleTypings.{started}
use Rattle.typing.proofs.rules.root_type.Goals as goal

pub returns : goal.returns
returns c = λ m h. started m _ _ _ c.start_env-env.ensures (c.node.ensures m h)
