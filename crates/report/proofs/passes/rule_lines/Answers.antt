-- `rule_lines` meets its contract. Assumes nothing.
use borrow.Author.Rules.{rules}
use Rattle.report.proofs.RuleLaws.{rules_none, rule_room, rules_next, rules_end}
use Rattle.report.proofs.passes.rule_lines.Goals as goal

pub loop-r-init : goal.loop-r-init
loop-r-init c = rules_none _ _

pub object_lines-total-requires : goal.object_lines-total-requires
object_lines-total-requires c = search (rule_room, rules)

pub loop-r-preserved : goal.loop-r-preserved
loop-r-preserved c = search (rules_next, rule_room)

pub returns : goal.returns
returns c = search rules_end
