-- `ended` meets its contract. Assumes nothing.
use Rattle.load.proofs.Steps.{ended_taken, ended_refused}
use Rattle.load.proofs.reader.ended.Goals as goal

pub returns-in-Ok : goal.returns-in-Ok
returns-in-Ok c = ended_taken (rw c.in-Ok.is at c.line_read.ensures)

pub returns-in-Err : goal.returns-in-Err
returns-in-Err c = ended_refused (rw c.in-Err.is at c.line_read.ensures) (c.line_number-place.ensures _)
