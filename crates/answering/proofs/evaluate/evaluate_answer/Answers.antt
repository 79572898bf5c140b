-- `evaluate_answer` meets its contract. Assumes nothing.
use Rattle.opening.proofs.Answers.{still_lent}
use Rattle.opening.proofs.Readings.{known_on, leaves_on, leaves_stop}
use Rattle.answering.proofs.evaluate.evaluate_answer.Goals as goal

pub evaluate_on-requires : goal.evaluate_on-requires
evaluate_on-requires c = (still_lent c.requires c.open_text.ensures, search known_on)

pub returns-in-Ok : goal.returns-in-Ok
returns-in-Ok c = search leaves_on

pub returns-in-Err : goal.returns-in-Err
returns-in-Err c = search leaves_stop
