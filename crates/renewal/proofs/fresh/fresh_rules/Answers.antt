-- `fresh_rules` meets its contract. Assumes nothing.
use native.Mathlib.Omega.{arith}
use Rattle.renewal.proofs.FreshRuleLaws.{rules_none, some_rule, rules_few, rules_next, rules_all}
use Rattle.renewal.proofs.fresh.fresh_rules.Goals as goal

pub loop-r-init : goal.loop-r-init
loop-r-init c = rules_none _ _ _

pub told_lines-sums-requires : goal.told_lines-sums-requires
told_lines-sums-requires c = record { least_words_in_bounds = (c.requires.least_words_in_bounds.0, c.requires.least_words_in_bounds.1, omega (arith, c.requires.least_words_in_bounds.2, c.loop-r.invariant.so.kept.size), some_rule c.requires.least_words_in_bounds.3 (omega (arith, c.wide-rules.ensures, c.loop-r-test.true)), omega (arith, c.requires.least_words_in_bounds.3.accepted.lies.fine.rules, c.wide-rules.ensures, c.loop-r-test.true)); least_output_in_bounds = (omega (arith, c.requires.least_output_in_bounds.0, c.loop-r.invariant.so.size), (rules_few c.requires.least_words_in_bounds.3 c.loop-r.invariant).0, (rules_few c.requires.least_words_in_bounds.3 c.loop-r.invariant).1) }

pub loop-r-preserved : goal.loop-r-preserved
loop-r-preserved c = rules_next c.loop-r.invariant c.wide-rules.ensures c.loop-r-test.true c.requires.least_output_in_bounds.1 (omega (arith, c.requires.least_words_in_bounds.3.accepted.lies.fine.rules, c.wide-rules.ensures)) c.told_lines-sums.ensures

pub returns : goal.returns
returns c = search rules_all
