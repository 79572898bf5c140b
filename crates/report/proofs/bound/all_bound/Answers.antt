-- `all_bound` meets its contract. Assumes nothing.
use Rattle.report.proofs.BoundLaws.{bounded_none, bounded_next, bounded_all}
use Rattle.report.proofs.bound.all_bound.Goals as goal

pub loop-r-init : goal.loop-r-init
loop-r-init c = bounded_none

pub loop-r-preserved : goal.loop-r-preserved
loop-r-preserved c = search bounded_next

pub returns : goal.returns
returns c = search bounded_all
