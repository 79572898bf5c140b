-- `replay::judging::clears` meets its contract. Assumes nothing.
use Rattle.replay.proofs.ClearingLaws.{clears_count, clears_word}
use Rattle.replay.proofs.judging.clears.Goals as goal

pub returns-then-f-eq4 : goal.returns-then-f-eq4
returns-then-f-eq4 c = clears_word c.requires c.if-f-eq4.true c.field.ensures c.as_slice.ensures c.eq.ensures

pub returns-else-f-eq4 : goal.returns-else-f-eq4
returns-else-f-eq4 c = clears_count c.requires c.if-f-eq4.false
