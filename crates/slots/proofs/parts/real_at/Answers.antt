-- `slots::parts::real_at` meets its contract. Assumes nothing.
use Rattle.slots.proofs.PartLaws.{real_none, real_part}
use Rattle.slots.proofs.parts.real_at.Goals as goal

pub returns-then-f-at-lt-REAL_BYTES : goal.returns-then-f-at-lt-REAL_BYTES
returns-then-f-at-lt-REAL_BYTES c = search real_none

pub returns : goal.returns
returns c = search real_part
