-- `own` meets its contract. Assumes nothing.
use borrow.Author.Rules.{rules}
use Rattle.numbering.proofs.Findings.{own_found, own_passed}
use Rattle.numbering.proofs.forms.own.Goals as goal

pub returns-then-is_outside : goal.returns-then-is_outside
returns-then-is_outside c = (own_found _ _ _ _ _ _ _ _ c.is_outside.ensures _ c.requires.in_nodes c.if-is_outside.true c.lower.ensures, search rules)

pub returns : goal.returns
returns c = (own_passed _ _ _ _ _ _ _ _ c.is_outside.ensures c.if-is_outside.false, search rules)
