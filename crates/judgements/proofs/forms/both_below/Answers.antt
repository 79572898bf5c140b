-- `both_below` meets its contract. Assumes nothing.
use Rattle.judgements.proofs.FormTypes.{both_yes, both_no}
use Rattle.judgements.proofs.forms.both_below.Goals as goal

pub returns-then-both_under : goal.returns-then-both_under
returns-then-both_under c = search both_yes

pub returns : goal.returns
returns c = search (both_no, c.at.ensures)
