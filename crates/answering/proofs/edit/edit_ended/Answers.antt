-- `edit_ended` meets its contract. Assumes nothing.
use Rattle.answering.proofs.EditCalls.{edit_written, edit_refused}
use Rattle.answering.proofs.edit.edit_ended.Goals as goal

pub returns-in-Ok : goal.returns-in-Ok
returns-in-Ok c = search edit_written

pub returns-in-Err : goal.returns-in-Err
returns-in-Err c = search edit_refused
