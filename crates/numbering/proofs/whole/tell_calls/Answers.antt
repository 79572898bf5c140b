-- `tell_calls` meets its contract. Assumes nothing.
use Rattle.numbering.proofs.Roots.{tell_none, tell_more, tell_done}
use Rattle.numbering.proofs.whole.tell_calls.Goals as goal

pub loop-n-init : goal.loop-n-init
loop-n-init c = tell_none _ _ _ _ _

pub loop-n-preserved : goal.loop-n-preserved
loop-n-preserved c = search tell_more

pub returns : goal.returns
returns c = search tell_done
