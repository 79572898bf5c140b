-- `in_body` meets its contract.
use Rattle.reader.proofs.Laws.{kind_node, kind_other}
use Rattle.reader.proofs.in_body.Goals as goal

pub returns-then-kind-eq-NODE_LINE : goal.returns-then-kind-eq-NODE_LINE
returns-then-kind-eq-NODE_LINE c = search kind_node

pub returns-else-kind-eq-NODE_LINE : goal.returns-else-kind-eq-NODE_LINE
returns-else-kind-eq-NODE_LINE c = search kind_other
