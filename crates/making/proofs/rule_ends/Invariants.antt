-- `making::rule_ends` meets its contract. Assumes nothing.
use mathlib.Core.Path.{◌≡◌}
use mathlib.Core.Bool.{false}
use lib.ListN.{length}
use Rattle.report.proofs.RuleLaws.{RulesTo}
use Rattle.making.proofs.MadeLaws.{EndsTo}
use Rattle.making.proofs.rule_ends.Given as goal

abbrev pub invariant-loop-r : goal.invariant-loop-r
invariant-loop-r l = record {
  counted : RulesTo false l.st l.w0 l.w1 l.initial.w2 l.w2 false l.initial.line l.line l.r l.total;
  ends : EndsTo l.st l.w0 l.w1 l.ends l.r;
  size : length l.ends ≡ length l.initial.ends;
}
