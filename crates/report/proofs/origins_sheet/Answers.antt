-- `origins_sheet` meets its contract. Assumes nothing.
use Rattle.report.proofs.SheetLaws.{as_origins}
use Rattle.report.proofs.origins_sheet.Goals as goal

pub returns : goal.returns
returns c = search as_origins
