-- `ocl_report` meets its contract. Assumes nothing.
use Rattle.sheet.specs.Report.{report_call}
use Rattle.opening.proofs.Answers.{all_lent, still_long, short_call, long_call}
use Rattle.answering.proofs.ReportCalls.{report_number}
use Rattle.checker.proofs.report_call.ocl_report.Goals as goal

pub returns-then-short_lent : goal.returns-then-short_lent
unfolding report_call
returns-then-short_lent c = search short_call

pub report_answer-a-requires : goal.report_answer-a-requires
report_answer-a-requires c = all_lent c.short_lent.ensures c.if-short_lent.false

pub wipe_all-requires : goal.wipe_all-requires
wipe_all-requires c = still_long (all_lent c.short_lent.ensures c.if-short_lent.false) c.report_answer-a.ensures

pub returns : goal.returns
unfolding report_call
returns c = search (long_call, report_number)
