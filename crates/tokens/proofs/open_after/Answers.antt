-- `open_after` meets its contract. Assumes nothing.
use Rattle.tokens.proofs.BracketLaws.{opens_one, closes_one, neither}
use Rattle.tokens.proofs.open_after.Goals as goal

pub returns-in-31 : goal.returns-in-31
returns-in-31 c = search opens_one

pub returns-in-41 : goal.returns-in-41
returns-in-41 c = rw c.saturating_sub.ensures (search closes_one)

pub returns-in_default : goal.returns-in_default
returns-in_default c = search neither
