-- `slots::reader::last` meets its contract. Assumes nothing.
use Rattle.slots.proofs.TurnLaws.{last_bad, last_over, last_is}
use native.Mathlib.Omega.{arith}
use Rattle.slots.proofs.reader.last.Goals as goal

pub returns-then-at-f : goal.returns-then-at-f
returns-then-at-f c = last_bad c.if-at-f.true

pub returns-then-o-gt-LARGEST : goal.returns-then-o-gt-LARGEST
returns-then-o-gt-LARGEST c = last_over (omega arith) c.if-o-gt-LARGEST.true

pub returns : goal.returns
returns c = last_is (omega arith) c.if-o-gt-LARGEST.false
