-- `around_common` meets its contract. Assumes nothing.
use Rattle.judgements.proofs.Joins.{joined_yes, joined_no}
use Rattle.judgements.proofs.forms.around_common.Goals as goal

pub returns-in_default : goal.returns-in_default
returns-in_default c = rw c.at.ensures (joined_no _ _ _ c.in_default.is)

pub returns : goal.returns
returns c = search joined_yes
