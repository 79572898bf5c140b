-- `bound` meets its contract. Assumes nothing.
use Rattle.judgements.proofs.Environments.{is_bound, is_free}
use Rattle.judgements.proofs.environment.bound.Goals as goal

pub returns-then-env-i : goal.returns-then-env-i
returns-then-env-i c = search is_bound

pub returns : goal.returns
returns c = rw c.at.ensures (is_free _ _ _ c.if-env-i.false)
