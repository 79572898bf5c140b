-- `checker::make_board_call::short_board` meets its contract. Assumes nothing.
use Rattle.checker.proofs.BoardCalls.{short_some, short_words_lem}
use Rattle.checker.proofs.make_board_call.short_board.Goals as goal

pub returns-then-short_lent : goal.returns-then-short_lent
returns-then-short_lent c = search short_some

pub returns-else-short_lent : goal.returns-else-short_lent
returns-else-short_lent c = search short_words_lem
