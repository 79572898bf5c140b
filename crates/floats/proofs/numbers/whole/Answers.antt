-- `whole` meets its contract. Assumes nothing.
use Rattle.floats.proofs.Wholes.{whole_zero, whole_below, whole_some, whole_none}
use Rattle.floats.proofs.numbers.whole.Goals as goal

pub returns-then-bits-eq0 : goal.returns-then-bits-eq0
returns-then-bits-eq0 c = search whole_zero

pub returns-then-bits-lt-ONE : goal.returns-then-bits-lt-ONE
returns-then-bits-lt-ONE c = search whole_below

pub returns-then-n-after : goal.returns-then-n-after
returns-then-n-after c = search whole_some

pub returns-else-n-after : goal.returns-else-n-after
returns-else-n-after c = search whole_none
