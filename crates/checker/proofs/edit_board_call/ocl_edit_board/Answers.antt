-- `ocl_edit_board` meets its contract. Assumes nothing.
use Rattle.checker.proofs.BoardCalls.{board_lent, edit_wide, edit_short, edit_long}
use Rattle.checker.proofs.edit_board_call.ocl_edit_board.Goals as goal

pub returns-then-short_board : goal.returns-then-short_board
returns-then-short_board c = search edit_short

pub edit_answer-a-requires : goal.edit_answer-a-requires
edit_answer-a-requires c = board_lent c.args.w0.now c.args.w1.now c.args.w2.now c.args.words.now c.args.out.now c.short_board.ensures c.if-short_board.false

pub wipe_all-requires : goal.wipe_all-requires
wipe_all-requires c = edit_wide (board_lent c.args.w0.now c.args.w1.now c.args.w2.now c.args.words.now c.args.out.now c.short_board.ensures c.if-short_board.false).0 c.edit_answer-a.ensures

pub returns : goal.returns
returns c = search edit_long
