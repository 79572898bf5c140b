-- `touched_rules` meets its contract. Assumes nothing.
use Rattle.renewal.proofs.TouchedLaws.{TouchedTo}
use Rattle.renewal.proofs.touched.touched_rules.Given as goal

abbrev pub invariant-loop-r : goal.invariant-loop-r
invariant-loop-r l = TouchedTo l.rules l.w0 l.w2 l.row l.touched l.r
