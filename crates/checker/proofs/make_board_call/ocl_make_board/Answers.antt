-- `checker::make_board_call::ocl_make_board` meets its contract. Assumes nothing.
use Rattle.opening.proofs.Answers.{still_long}
use Rattle.checker.proofs.BoardCalls.{board_lent, make_short, make_long}
use Rattle.checker.proofs.make_board_call.ocl_make_board.Goals as goal

pub returns-then-short_board : goal.returns-then-short_board
returns-then-short_board c = search make_short

pub make_answer-a-requires : goal.make_answer-a-requires
make_answer-a-requires c = board_lent c.args.w0.now c.args.w1.now c.args.w2.now c.args.words.now c.args.out.now c.short_board.ensures c.if-short_board.false

pub wipe_all-requires : goal.wipe_all-requires
wipe_all-requires c = still_long (board_lent c.args.w0.now c.args.w1.now c.args.w2.now c.args.words.now c.args.out.now c.short_board.ensures c.if-short_board.false).0 c.make_answer-a.ensures.leaves

pub returns : goal.returns
returns c = search make_long
