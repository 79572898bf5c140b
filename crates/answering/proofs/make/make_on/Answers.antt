-- `checker::make_board_call::make_on` meets its contract. Assumes nothing.
use Rattle.answering.proofs.MakeCalls.{make_gives}
use Rattle.answering.proofs.make.make_on.Goals as goal

pub returns : goal.returns
returns c = make_gives c.make_board.ensures c.lines_answer.ensures
