-- `report_answer` meets its contract. Assumes nothing.
use Rattle.opening.proofs.Answers.{still_lent}
use Rattle.opening.proofs.Readings.{known_on}
use Rattle.answering.proofs.ReportCalls.{report_given, report_stopped}
use Rattle.answering.proofs.verdicts.report_answer.Goals as goal

pub report_on-requires : goal.report_on-requires
report_on-requires c = (still_lent c.requires c.open_text.ensures, search known_on)

pub returns-in-Ok : goal.returns-in-Ok
returns-in-Ok c = search report_given

pub returns-in-Err : goal.returns-in-Err
returns-in-Err c = search report_stopped
