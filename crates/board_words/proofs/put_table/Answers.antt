-- `board_words::put_table` meets its contract. Assumes nothing.
use native.Mathlib.Omega.{arith}
use mathlib.Core.Path.{refl}
use lib.ListN.{take, length-set}
use lib.Seq.{paste-zero}
use Rattle.board_words.specs.Layout.{padded}
use Rattle.board_words.proofs.StoringLaws.{put_more, put_done}
use Rattle.board_words.proofs.put_table.Goals as goal

pub loop-i-init : goal.loop-i-init
loop-i-init c = (paste-zero c.args.words.now c.args.at (padded c.args.room (take c.args.n c.args.table.now)), refl)

pub loop-i-preserved : goal.loop-i-preserved
loop-i-preserved c = (put_more c.args.words.now c.args.table.now c.args.at c.args.room c.args.n c.loop-i.i c.loop-i.invariant.0 c.requires.0 c.requires.1 c.loop-i-test.true c.word_or.ensures, simp length-set c.loop-i.invariant.1)

pub returns : goal.returns
returns c = put_done c.args.words.now (padded c.args.room (take c.args.n c.args.table.now)) c.args.at c.args.room c.loop-i.i c.loop-i.invariant.0 (omega arith) (omega arith)
