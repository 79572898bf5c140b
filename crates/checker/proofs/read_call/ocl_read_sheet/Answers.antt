-- `ocl_read_sheet` meets its contract. Assumes nothing.
use Rattle.sheet.specs.Calls.{read_call}
use Rattle.opening.proofs.Answers.{all_lent, still_long, short_call, long_call}
use Rattle.answering.proofs.ReadCalls.{read_number}
use Rattle.checker.proofs.read_call.ocl_read_sheet.Goals as goal

pub returns-then-short_lent : goal.returns-then-short_lent
unfolding read_call
returns-then-short_lent c = search short_call

pub read_answer-a-requires : goal.read_answer-a-requires
read_answer-a-requires c = all_lent c.short_lent.ensures c.if-short_lent.false

pub wipe_all-requires : goal.wipe_all-requires
wipe_all-requires c = still_long (all_lent c.short_lent.ensures c.if-short_lent.false) c.read_answer-a.ensures

pub returns : goal.returns
unfolding read_call
returns c = search (long_call, read_number)
