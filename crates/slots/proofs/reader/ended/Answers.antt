-- `slots::reader::ended` meets its contract. Assumes nothing.
use Rattle.slots.proofs.TurnLaws.{may_raise, ended_on}
use Rattle.slots.specs.Machine.{turn_stop}
use Rattle.slots.proofs.reader.ended.Goals as goal

pub returns-then-o-eq0 : goal.returns-then-o-eq0
returns-then-o-eq0 c = turn_stop (c.last.ensures.is _ c.requires c.if-o-eq0.true)

pub raise-requires : goal.raise-requires
raise-requires c = may_raise c.requires c.if-o-eq0.false

pub returns : goal.returns
returns c = search ended_on
