-- `board_words::word_or` meets its contract. Assumes nothing.
use Rattle.board_words.proofs.StoringLaws.{word_there, word_past}
use Rattle.board_words.proofs.word_or.Goals as goal

pub returns-then-i-n : goal.returns-then-i-n
returns-then-i-n c = search word_there

pub returns : goal.returns
returns c = word_past _ c.if-i-n.false
