-- `object_line` meets its contract. Assumes nothing.
use native.Mathlib.Omega.{arith}
use borrow.Author.Rules.{rules}
use Rattle.report.proofs.PassLaws.{rule_there, no_line, room_kept, room_counted, line_kept, counted_few, line_counted}
use Rattle.report.proofs.passes.object_line.Goals as goal

pub overflow_add-r : goal.overflow_add-r
overflow_add-r c = omega (arith, rule_there)

pub offset_bounds-w0-r : goal.offset_bounds-w0-r
offset_bounds-w0-r c = omega (arith, rule_there)

pub bounds-w0-r : goal.bounds-w0-r
bounds-w0-r c = omega (arith, rule_there)

pub put_verdict-requires : goal.put_verdict-requires
put_verdict-requires c = search (room_kept, rules)

pub returns-then-keep : goal.returns-then-keep
returns-then-keep c = search line_kept

pub put_verdict-requires-then-is_a : goal.put_verdict-requires-then-is_a
put_verdict-requires-then-is_a c = search (room_counted, rules)

pub overflow_add-result : goal.overflow_add-result
overflow_add-result c = omega (arith, counted_few _ c.is_a.ensures c.if-is_a.true c.requires.room_for.0 c.put_verdict-then-is_a.ensures)

pub returns-then-is_a : goal.returns-then-is_a
returns-then-is_a c = search line_counted

pub returns : goal.returns
returns c = search no_line
