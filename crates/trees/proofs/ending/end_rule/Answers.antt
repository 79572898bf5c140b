-- `end_rule` meets its contract.
use Rattle.trees.proofs.EndLaws.{end_none, end_empty, end_unused, end_deep, end_down}
use Rattle.trees.proofs.ending.end_rule.Goals as goal

pub returns-then-st-eq-NOTHING_OPEN : goal.returns-then-st-eq-NOTHING_OPEN
returns-then-st-eq-NOTHING_OPEN c = search end_none

pub returns-then-first-nodes : goal.returns-then-first-nodes
returns-then-first-nodes c = search end_empty

pub returns-then-not-all_used : goal.returns-then-not-all_used
returns-then-not-all_used c = search end_unused

pub returns-then-w1-last-gt-MOST_LEVELS : goal.returns-then-w1-last-gt-MOST_LEVELS
returns-then-w1-last-gt-MOST_LEVELS c = search end_deep

pub returns : goal.returns
returns c = search end_down
