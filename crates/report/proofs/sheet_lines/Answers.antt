-- `sheet_lines` meets its contract. Assumes nothing.
use borrow.Author.Rules.{rules}
use Rattle.report.proofs.SheetLaws.{bounded_by, all_room, all_short, all_written}
use Rattle.report.proofs.sheet_lines.Goals as goal

pub lines_fit-requires : goal.lines_fit-requires
lines_fit-requires c = search (bounded_by, rules)

pub rule_lines-requires : goal.rule_lines-requires
rule_lines-requires c = record { least_words_in_bounds = (search rules, search rules, search rules); room_for_all = all_room c.all_bound-bound.ensures c.lines_fit.ensures c.if-lines_fit.true c.requires.known_typed.0 c.requires.known_typed.1 }

pub returns-then-lines_fit : goal.returns-then-lines_fit
returns-then-lines_fit c = search all_written

pub returns-else-lines_fit : goal.returns-else-lines_fit
returns-else-lines_fit c = search all_short
