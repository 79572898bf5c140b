-- `put_column` meets its contract. Assumes nothing.
use Rattle.text.proofs.WrittenLaws.{puts_then}
use Rattle.report.proofs.lines.put_column.Goals as goal

pub returns : goal.returns
returns c = search puts_then
