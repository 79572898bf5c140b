-- `spread_rules` meets its contract. Assumes nothing.
use Rattle.renewal.proofs.SpreadLaws.{SpreadFrom}
use Rattle.renewal.proofs.spread.spread_rules.Given as goal

abbrev pub invariant-loop-r : goal.invariant-loop-r
invariant-loop-r l = SpreadFrom l.st l.w0 l.w1 l.touched l.fresh l.buf l.placed l.initial.w2 l.w2 l.initial.out l.out l.r
