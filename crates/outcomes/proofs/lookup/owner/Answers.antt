-- `operations::lookup::owner` meets its contract. Assumes nothing.
use Rattle.outcomes.proofs.Lookups.{no_owner, owner_is}
use Rattle.outcomes.proofs.lookup.owner.Goals as goal

pub returns-then-st-i : goal.returns-then-st-i
returns-then-st-i c = no_owner c.if-st-i.true

pub returns : goal.returns
returns c = search owner_is
