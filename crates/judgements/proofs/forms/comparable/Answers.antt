-- `comparable` meets its contract. Assumes nothing.
use Rattle.judgements.proofs.FormTypes.{common_yes, common_no}
use Rattle.judgements.proofs.forms.comparable.Goals as goal

pub returns-in_default : goal.returns-in_default
returns-in_default c = search (common_no, c.at.ensures)

pub returns : goal.returns
returns c = search common_yes
