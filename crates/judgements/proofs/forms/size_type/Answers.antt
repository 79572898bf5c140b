-- `size_type` meets its contract. Assumes nothing.
use Rattle.judgements.proofs.FormTypes.{no_members, on_members}
use Rattle.judgements.proofs.forms.size_type.Goals as goal

pub returns-then-outer_code-eq0 : goal.returns-then-outer_code-eq0
returns-then-outer_code-eq0 c = search (no_members, c.at.ensures)

pub returns : goal.returns
returns c = search on_members
