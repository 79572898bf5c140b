-- `is_outside` meets its contract. Assumes nothing.
use borrow.Author.Rules.{rules}
use Rattle.numbering.proofs.Findings.{own_always, own_looks, own_not}
use Rattle.numbering.proofs.forms.is_outside.Goals as goal

pub returns-in-35 : goal.returns-in-35
returns-in-35 c = own_always _ _ _ _ _ _ _ c.in-35.is

pub returns-then-looks : goal.returns-then-looks
returns-then-looks c = own_looks _ _ _ _ _ _ _ (search rules) c.looks.ensures c.if-looks.true c.on_sequence.ensures

pub returns-else-looks : goal.returns-else-looks
returns-else-looks c = own_not _ _ _ _ _ _ _ (search rules) c.looks.ensures c.if-looks.false
