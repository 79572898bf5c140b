-- `lower` meets its contract. Assumes nothing.
use Rattle.numbering.proofs.Lowest.{lower_first, lower_second, lower_right, lower_left}
use Rattle.numbering.proofs.lower.Goals as goal

pub returns-then-b-ge-NONE : goal.returns-then-b-ge-NONE
returns-then-b-ge-NONE c = search lower_first

pub returns-then-a-ge-NONE : goal.returns-then-a-ge-NONE
returns-then-a-ge-NONE c = search lower_second

pub returns-then-node_word : goal.returns-then-node_word
returns-then-node_word c = lower_right _ _ _ c.if-a-ge-NONE.false c.if-b-ge-NONE.false c.node_word-2.ensures c.node_word.ensures c.if-node_word.true

pub returns : goal.returns
returns c = search lower_left
