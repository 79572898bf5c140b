-- `join_more` meets its contract. Assumes nothing.
use Rattle.judgements.proofs.Joins.{more_none, more_some}
use Rattle.judgements.proofs.forms.join_more.Goals as goal

pub returns-in_default : goal.returns-in_default
returns-in_default c = more_none _ _ _ c.in_default.is

pub returns : goal.returns
returns c = search more_some
