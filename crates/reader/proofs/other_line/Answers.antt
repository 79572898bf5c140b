-- `other_line` meets its contract: the line's letter by its kind, then what the line's own code promises. Assumes nothing.
use Rattle.declarations.proofs.TakenLaws.{unspelled}
use Rattle.reader.proofs.Laws.{class_letter, row_letter, object_letter, value_letter, rule_letter, definition_letter, unknown_line, by_any, by_slot}
use Rattle.reader.proofs.other_line.Goals as goal

pub class_line-requires : goal.class_line-requires
class_line-requires c = search class_letter

pub row_line-requires : goal.row_line-requires
row_line-requires c = search row_letter

pub object_line-requires : goal.object_line-requires
object_line-requires c = search object_letter

pub value_line-requires : goal.value_line-requires
value_line-requires c = search value_letter

pub rule_line-requires : goal.rule_line-requires
rule_line-requires c = search rule_letter

pub definition_line-requires : goal.definition_line-requires
definition_line-requires c = search definition_letter

pub returns-in-1 : goal.returns-in-1
returns-in-1 c = λ w1 k. by_any (c.class_line.ensures w1 k)

pub returns-in-2 : goal.returns-in-2
returns-in-2 c = λ w1 k. by_any (c.row_line.ensures w1 k)

pub returns-in-3 : goal.returns-in-3
returns-in-3 c = λ w1 k. by_any (c.object_line.ensures w1 k)

pub returns-in-4 : goal.returns-in-4
returns-in-4 c = λ w1 k. by_slot (c.value_line.ensures w1 k)

pub returns-in-5 : goal.returns-in-5
returns-in-5 c = λ w1 k. by_any (c.rule_line.ensures c.args.w0.now w1 k)

pub returns-in-8 : goal.returns-in-8
returns-in-8 c = λ w1 k. by_any (c.definition_line.ensures c.args.w0.now w1 k)

pub returns-in_default : goal.returns-in_default
returns-in_default c = search (by_any, unspelled, unknown_line)
