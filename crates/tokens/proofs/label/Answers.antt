-- `label` meets its contract. Assumes nothing.
use Rattle.tokens.proofs.LabelLaws.{label_none, label_other, label_here}
use Rattle.tokens.proofs.label.Goals as goal

pub returns-in-len1-up : goal.returns-in-len1-up
returns-in-len1-up c = label_here _ _ c.in-len1-up.len_at_least c.if-b-letter.true c.number.ensures

pub returns-in_default : goal.returns-in_default
returns-in_default c = label_none _ _ c.in_default.len_below

pub returns-in_default-2 : goal.returns-in_default-2
returns-in_default-2 c = label_other _ _ c.in-len1-up.len_at_least c.if-b-letter.false
