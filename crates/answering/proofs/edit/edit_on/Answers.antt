-- `edit_on` meets its contract. Assumes nothing.
use Rattle.answering.proofs.EditCalls.{edits_on}
use Rattle.answering.proofs.edit.edit_on.Goals as goal

pub returns : goal.returns
returns c = search edits_on
