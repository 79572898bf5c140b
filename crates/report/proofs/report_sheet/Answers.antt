-- `report_sheet` meets its contract. Assumes nothing.
use Rattle.report.proofs.SheetLaws.{as_report}
use Rattle.report.proofs.report_sheet.Goals as goal

pub returns : goal.returns
returns c = search as_report
