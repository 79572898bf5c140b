-- `replay::taking::take_slots` meets its contract. Assumes nothing.
use Rattle.std.proofs.lemmas.Result.{err_from_is_err_and}
use Rattle.replay.proofs.TakingLaws.{taking_first, taking_stop, taking_again, taking_end}
use Rattle.replay.proofs.taking.take_slots.Goals as goal

pub loop-j-init : goal.loop-j-init
loop-j-init c = search taking_first

pub returns-in_err-su : goal.returns-in_err-su
returns-in_err-su c = λ w1. let p = err_from_is_err_and c.from_residual.result c.from_residual.ensures.1 in rw (p.1, p.2) (taking_stop c.loop-j.invariant c.loop-j-test.true c.take_slot.ensures c.in_err-su.was w1)

pub loop-j-preserved : goal.loop-j-preserved
loop-j-preserved c = taking_again c.loop-j.invariant c.loop-j-test.true c.take_slot.ensures c.in_ok-su.was

pub returns : goal.returns
returns c = search taking_end
