-- `renew_touched` meets its contract. Assumes nothing.
use Prim.Native.Nat.{ℕ}
use native.Mathlib.Omega.{arith}
use lib.ListN.{length-replicate}
use Rattle.renewal.proofs.RenewalLaws.{few_rules, rising_by, fresh_rising, some_placing, renewed_written, renewed_short}
use Rattle.renewal.proofs.renew_touched.Goals as goal

pub place-requires : goal.place-requires
place-requires c = record { n_le_most_rules = (few_rules c.wide-rules.ensures c.requires.least_words_in_bounds.3, omega (arith, few_rules c.wide-rules.ensures c.requires.least_words_in_bounds.3, c.requires.most_rules_in_bounds.0), omega (arith, few_rules c.wide-rules.ensures c.requires.least_words_in_bounds.3, c.fresh_rules-sums.ensures.ends_size, length-replicate {A = ℕ} 64 0), omega (arith, few_rules c.wide-rules.ensures c.requires.least_words_in_bounds.3, c.requires.most_rules_in_bounds.1)); rising = (rising_by c.wide-rules.ensures c.requires.most_rules_in_bounds.2, fresh_rising c.wide-rules.ensures c.fresh_rules-sums.ensures c.requires.least_words_in_bounds.3) }

pub rearrange-requires : goal.rearrange-requires
rearrange-requires c = record { least_words_in_bounds = (c.requires.least_words_in_bounds.0, c.requires.least_words_in_bounds.1, omega (arith, c.requires.least_words_in_bounds.2, c.fresh_rules-sums.ensures.kept.size), c.requires.most_rules_in_bounds.0, omega (arith, c.fresh_rules-sums.ensures.ends_size, length-replicate {A = ℕ} 64 0), omega (arith, c.fresh_rules-sums.ensures.size, length-replicate {A = ℕ} 18944 0)); most_rules_in_bounds = (omega (arith, c.requires.most_rules_in_bounds.1, c.place.ensures.size), some_placing c.fresh_rules-sums.ensures _ c.wide-rules.ensures c.place.ensures c.if-place.true c.requires.least_words_in_bounds.3 c.requires.most_rules_in_bounds.2, c.requires.most_rules_in_bounds.2) }

pub start_of-requires : goal.start_of-requires
start_of-requires c = omega (arith, few_rules c.wide-rules.ensures c.requires.least_words_in_bounds.3, c.requires.most_rules_in_bounds.1, c.place.ensures.size)

pub returns-then-place : goal.returns-then-place
returns-then-place c = search renewed_written

pub returns : goal.returns
returns c = rw c.at.ensures (search renewed_short)
