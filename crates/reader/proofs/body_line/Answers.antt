-- `body_line` meets its contract: the line's letter by its kind, then what the line's own code promises. Assumes nothing.
use Rattle.reader.proofs.Laws.{node_letter, text_letter, by_node}
use Rattle.reader.proofs.body_line.Goals as goal

pub node_line-requires : goal.node_line-requires
node_line-requires c = search node_letter

pub returns-then-kind-eq-NODE_LINE : goal.returns-then-kind-eq-NODE_LINE
returns-then-kind-eq-NODE_LINE c = search by_node

pub text_line-requires : goal.text_line-requires
text_line-requires c = search text_letter
