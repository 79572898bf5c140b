-- `rule_lines` meets its contract. Assumes nothing.
use Rattle.report.proofs.RuleLaws.{RulesTo}
use Rattle.report.proofs.passes.rule_lines.Given as goal

abbrev pub invariant-loop-r : goal.invariant-loop-r
invariant-loop-r l = RulesTo l.origins l.st l.w0 l.w1 l.initial.w2 l.w2 l.keep l.initial.out l.out l.r l.total
