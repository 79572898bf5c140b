-- `checker::make_board_call::make_answer` meets its contract. Assumes nothing.
use Rattle.opening.proofs.Answers.{still_lent}
use Rattle.opening.proofs.Readings.{known_on}
use Rattle.answering.proofs.MakeCalls.{make_given, make_stopped}
use Rattle.answering.proofs.make.make_answer.Goals as goal

pub make_on-requires : goal.make_on-requires
make_on-requires c = (still_lent c.requires.0 c.open_text.ensures, c.requires.1, known_on c.open_text.ensures c.in-Ok.is)

pub returns-in-Ok : goal.returns-in-Ok
returns-in-Ok c = search make_given

pub returns-in-Err : goal.returns-in-Err
returns-in-Err c = search make_stopped
