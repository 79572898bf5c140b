-- `origins_answer` meets its contract. Assumes nothing.
use Rattle.opening.proofs.Answers.{still_lent}
use Rattle.opening.proofs.Readings.{known_on}
use Rattle.answering.proofs.ReportCalls.{origins_given, origins_stopped}
use Rattle.answering.proofs.origins.origins_answer.Goals as goal

pub origins_on-requires : goal.origins_on-requires
origins_on-requires c = (still_lent c.requires c.open_text.ensures, search known_on)

pub returns-in-Ok : goal.returns-in-Ok
returns-in-Ok c = search origins_given

pub returns-in-Err : goal.returns-in-Err
returns-in-Err c = search origins_stopped
