-- `wrapped` meets its contract. Assumes nothing.
use Rattle.judgements.proofs.FormTypes.{wrap_yes, wrap_no}
use Rattle.judgements.proofs.forms.wrapped.Goals as goal

pub returns-then-depth-le2 : goal.returns-then-depth-le2
returns-then-depth-le2 c = search wrap_yes

pub returns : goal.returns
returns c = search (wrap_no, c.at.ensures)
