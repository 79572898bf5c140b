-- `lines_answer` meets its contract. Assumes nothing.
use Rattle.opening.proofs.Lines.{lines_written, lines_short}
use Rattle.opening.proofs.lines_answer.Goals as goal

pub returns-in-Some : goal.returns-in-Some
returns-in-Some c = search lines_written

pub returns-in-None : goal.returns-in-None
returns-in-None c = lines_short c.in-None.is (rw c.at.ensures at c.from.ensures)
