-- `including_type` meets its contract. Assumes nothing.
use Rattle.judgements.proofs.FormTypes.{common_of, including_no, including_yes}
use Rattle.judgements.proofs.forms.including_type.Goals as goal

pub returns-then-code-le-COLLECTION : goal.returns-then-code-le-COLLECTION
returns-then-code-le-COLLECTION c = search (including_no, c.at.ensures)

pub returns : goal.returns
returns c = search (including_yes, common_of)
