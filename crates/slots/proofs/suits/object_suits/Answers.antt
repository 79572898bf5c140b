-- `slots::suits::object_suits` meets its contract. Assumes nothing.
use Rattle.slots.proofs.BaseLaws.{object_there, object_gone}
use Rattle.slots.proofs.suits.object_suits.Goals as goal

pub returns-then-at-objects : goal.returns-then-at-objects
returns-then-at-objects c = search object_there

pub returns-else-at-objects : goal.returns-else-at-objects
returns-else-at-objects c = search object_gone
