-- `rows_on` meets its contract. Assumes nothing.
use Rattle.answering.proofs.RowsCalls.{rows_give}
use Rattle.answering.proofs.seen_rows.rows_on.Goals as goal

pub returns : goal.returns
returns c = search rows_give
