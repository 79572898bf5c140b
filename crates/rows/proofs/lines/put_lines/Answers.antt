-- `put_lines` meets its contract. Assumes nothing.
use borrow.Author.Rules.{rules}
use native.Mathlib.Omega.{arith}
use Rattle.rows.proofs.RuleLaws.{root_low, lines_none, line_room, lines_next, lines_all}
use Rattle.rows.proofs.lines.put_lines.Goals as goal

pub loop-r-init : goal.loop-r-init
loop-r-init c = lines_none _

pub offset_bounds-w2-root : goal.offset_bounds-w2-root
offset_bounds-w2-root c = omega (arith, root_low c.requires.3 c.wide-r-end.ensures c.loop-r-test.true c.wide-root.ensures)

pub bounds-w2-root : goal.bounds-w2-root
bounds-w2-root c = omega (arith, root_low c.requires.3 c.wide-r-end.ensures c.loop-r-test.true c.wide-root.ensures)

pub put_line-end-requires : goal.put_line-end-requires
put_line-end-requires c = (search rules, search rules, search line_room)

pub loop-r-preserved : goal.loop-r-preserved
loop-r-preserved c = search lines_next

pub returns : goal.returns
returns c = search lines_all
