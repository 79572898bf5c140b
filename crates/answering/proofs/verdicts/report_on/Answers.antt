-- `report_on` meets its contract. Assumes nothing.
use Rattle.answering.proofs.ReportCalls.{report_gives}
use Rattle.answering.proofs.verdicts.report_on.Goals as goal

pub returns : goal.returns
returns c = search report_gives
