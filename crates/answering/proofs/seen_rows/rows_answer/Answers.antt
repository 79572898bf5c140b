-- `rows_answer` meets its contract. Assumes nothing.
use Rattle.opening.proofs.Answers.{still_lent}
use Rattle.opening.proofs.Readings.{known_on}
use Rattle.answering.proofs.RowsCalls.{rows_given, rows_stopped}
use Rattle.answering.proofs.seen_rows.rows_answer.Goals as goal

pub rows_on-requires : goal.rows_on-requires
rows_on-requires c = (still_lent c.requires c.open_text.ensures, search known_on)

pub returns-in-Ok : goal.returns-in-Ok
returns-in-Ok c = search rows_given

pub returns-in-Err : goal.returns-in-Err
returns-in-Err c = search rows_stopped
