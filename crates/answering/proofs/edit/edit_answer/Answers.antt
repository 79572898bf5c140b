-- `edit_answer` meets its contract. Assumes nothing.
use Rattle.opening.proofs.Answers.{still_lent}
use Rattle.opening.proofs.Readings.{known_on}
use Rattle.answering.proofs.EditCalls.{edit_given, edit_stopped}
use Rattle.answering.proofs.edit.edit_answer.Goals as goal

pub edit_on-requires : goal.edit_on-requires
edit_on-requires c = (still_lent c.requires.0 c.open_text.ensures, c.requires.1, known_on c.open_text.ensures c.in-Ok.is)

pub returns-in-Ok : goal.returns-in-Ok
returns-in-Ok c = search edit_given

pub returns-in-Err : goal.returns-in-Err
returns-in-Err c = search edit_stopped
