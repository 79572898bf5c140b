-- `all_bound` meets its contract. Assumes nothing.
use Rattle.report.proofs.BoundLaws.{BoundedTo}
use Rattle.report.proofs.bound.all_bound.Given as goal

abbrev pub invariant-loop-r : goal.invariant-loop-r
invariant-loop-r l = BoundedTo l.origins l.st l.w0 l.w2 l.bound l.r
