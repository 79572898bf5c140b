-- `ocl_undefined` meets its contract. Assumes nothing.
use Rattle.sheet.specs.Origin.{origin_call}
use Rattle.opening.proofs.Answers.{all_lent, still_long, short_call, long_call}
use Rattle.answering.proofs.ReportCalls.{origins_number}
use Rattle.checker.proofs.undefined_call.ocl_undefined.Goals as goal

pub returns-then-short_lent : goal.returns-then-short_lent
unfolding origin_call
returns-then-short_lent c = search short_call

pub origins_answer-a-requires : goal.origins_answer-a-requires
origins_answer-a-requires c = all_lent c.short_lent.ensures c.if-short_lent.false

pub wipe_all-requires : goal.wipe_all-requires
wipe_all-requires c = still_long (all_lent c.short_lent.ensures c.if-short_lent.false) c.origins_answer-a.ensures

pub returns : goal.returns
unfolding origin_call
returns c = search (long_call, origins_number)
