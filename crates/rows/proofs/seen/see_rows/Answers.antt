-- `see_rows` meets its contract. Assumes nothing.
use Rattle.rows.proofs.SeenLaws.{seeing_none, seeing_next, seeing_all}
use Rattle.rows.proofs.seen.see_rows.Goals as goal

pub loop-n-init : goal.loop-n-init
loop-n-init c = seeing_none _

pub loop-n-preserved : goal.loop-n-preserved
loop-n-preserved c = search seeing_next

pub returns : goal.returns
returns c = search seeing_all
