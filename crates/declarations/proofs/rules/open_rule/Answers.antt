-- `open_rule` meets its contract: one law for each answer.
use Rattle.declarations.proofs.RuleLaws.{rule_block, rule_gap, rule_unknown, rule_put}
use Rattle.declarations.proofs.rules.open_rule.Goals as goal

pub returns-then-st-gt-RULES : goal.returns-then-st-gt-RULES
returns-then-st-gt-RULES c = search rule_block

pub returns-then-n-st : goal.returns-then-n-st
returns-then-n-st c = search rule_gap

pub returns-then-st-c : goal.returns-then-st-c
returns-then-st-c c = search rule_unknown

pub returns : goal.returns
returns c = search rule_put
