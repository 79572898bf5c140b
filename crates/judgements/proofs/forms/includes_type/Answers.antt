-- `includes_type` meets its contract. Assumes nothing.
use Rattle.judgements.proofs.FormTypes.{includes_no, includes_yes}
use Rattle.judgements.proofs.forms.includes_type.Goals as goal

pub returns-then-outer_code-eq0 : goal.returns-then-outer_code-eq0
returns-then-outer_code-eq0 c = search (includes_no, c.at.ensures)

pub returns : goal.returns
returns c = λ m e. includes_yes m _ _ _ _ c.outer_code.ensures c.if-outer_code-eq0.false c.member_type.ensures (c.comparable.ensures m e)
