-- `ocl_rows` meets its contract. Assumes nothing.
use Rattle.sheet.specs.Rows.{rows_call}
use Rattle.opening.proofs.Answers.{all_lent, still_long, short_call, long_call}
use Rattle.answering.proofs.RowsCalls.{rows_number}
use Rattle.checker.proofs.rows_call.ocl_rows.Goals as goal

pub returns-then-short_lent : goal.returns-then-short_lent
unfolding rows_call
returns-then-short_lent c = search short_call

pub rows_answer-a-requires : goal.rows_answer-a-requires
rows_answer-a-requires c = all_lent c.short_lent.ensures c.if-short_lent.false

pub wipe_all-requires : goal.wipe_all-requires
wipe_all-requires c = still_long (all_lent c.short_lent.ensures c.if-short_lent.false) c.rows_answer-a.ensures

pub returns : goal.returns
unfolding rows_call
returns c = search (long_call, rows_number)
