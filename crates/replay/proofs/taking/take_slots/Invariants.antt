-- `replay::taking::take_slots` meets its contract. Assumes nothing.
use Rattle.replay.proofs.TakingLaws.{Taking}
use Rattle.replay.proofs.taking.take_slots.Given as goal

abbrev pub invariant-loop-j : goal.invariant-loop-j
invariant-loop-j l = Taking l.words l.n l.from l.to l.initial.su l.initial.w0 l.su l.j l.w0
