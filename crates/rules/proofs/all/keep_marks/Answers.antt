-- `keep_marks` meets its contract. Assumes nothing.
use Rattle.rules.proofs.Marks.{copy_none, copy_more, copy_done}
use Rattle.rules.proofs.all.keep_marks.Goals as goal

pub loop-p-init : goal.loop-p-init
loop-p-init c = copy_none _ _

pub loop-p-preserved : goal.loop-p-preserved
loop-p-preserved c = search copy_more

pub returns : goal.returns
returns c = search copy_done
