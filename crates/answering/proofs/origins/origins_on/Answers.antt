-- `origins_on` meets its contract. Assumes nothing.
use Rattle.answering.proofs.ReportCalls.{origins_give}
use Rattle.answering.proofs.origins.origins_on.Goals as goal

pub returns : goal.returns
returns c = search origins_give
