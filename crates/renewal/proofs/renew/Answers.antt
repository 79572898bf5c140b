-- `renew` meets its contract. Assumes nothing.
use native.Mathlib.Omega.{arith}
use Rattle.renewal.proofs.RenewalLaws.{rooted_known, few_rules, told_standing, renews, foreign}
use borrow.Author.Rules.{rules}
use Rattle.renewal.proofs.renew.Goals as goal

pub touched_rules-touched-requires : goal.touched_rules-touched-requires
touched_rules-touched-requires c = (c.requires.least_words_in_bounds.0, omega (arith, c.requires.least_words_in_bounds.2, c.see_rows.ensures.kept.size), c.requires.row_lt_most_rows.0, rooted_known c.requires.least_words_in_bounds.3)

pub can_stand-requires : goal.can_stand-requires
can_stand-requires c = search (few_rules, rules)

pub renew_touched-requires : goal.renew_touched-requires
renew_touched-requires c = record { least_words_in_bounds = (c.requires.least_words_in_bounds.0, c.requires.least_words_in_bounds.1, omega (arith, c.requires.least_words_in_bounds.2, c.see_rows.ensures.kept.size), c.requires.least_words_in_bounds.3); most_rules_in_bounds = (c.requires.row_lt_most_rows.1, c.requires.row_lt_most_rows.2, told_standing c.can_stand.ensures c.if-can_stand.true c.wide.ensures) }

pub returns-then-can_stand : goal.returns-then-can_stand
returns-then-can_stand c = search renews

pub returns : goal.returns
returns c = rw c.at.ensures (search foreign)
