-- `node_rows` meets its contract: what is gathered, with what is left, is the whole. Assumes nothing.
use Rattle.rows.proofs.SeenLaws.{gathers_own, gathers_next, gathers_all}
use Rattle.rows.proofs.seen.node_rows.Goals as goal

pub loop-k-init : goal.loop-k-init
loop-k-init c = search gathers_own

pub loop-k-preserved : goal.loop-k-preserved
loop-k-preserved c = search gathers_next

pub returns : goal.returns
returns c = search gathers_all
