-- `replay::taking::slot_after` meets its contract. Assumes nothing.
use Rattle.replay.proofs.TakingLaws.{after_same, after_other, after_end}
use Rattle.replay.proofs.taking.slot_after.Goals as goal
use Rattle.replay.proofs.taking.slot_after.Goals.{else-p-n-via-then-p-n+else-words-p, else-p-n-via-else-p-n}

pub returns-then-words-p : goal.returns-then-words-p
returns-then-words-p c = search after_same

pub returns : goal.returns
returns c = elim c.else-p-n.branch [ else-p-n-via-then-p-n+else-words-p w ↦ after_other _ _ w.if-p-n.true w.if-words-p.false | else-p-n-via-else-p-n w ↦ after_end _ _ w.if-p-n.false ]
