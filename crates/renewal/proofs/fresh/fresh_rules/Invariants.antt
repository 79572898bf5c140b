-- `fresh_rules` meets its contract. Assumes nothing.
use Rattle.renewal.proofs.FreshRuleLaws.{RulesTo}
use Rattle.renewal.proofs.fresh.fresh_rules.Given as goal

abbrev pub invariant-loop-r : goal.invariant-loop-r
invariant-loop-r l = RulesTo l.st l.w0 l.w1 l.touched l.initial.w2 l.w2 l.initial.buf l.buf l.initial.ends l.ends l.r l.sums
