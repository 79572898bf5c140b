-- `touched_rules` meets its contract. Assumes nothing.
use native.Mathlib.Omega.{arith}
use Rattle.rows.proofs.RuleLaws.{root_low}
use Rattle.renewal.proofs.TouchedLaws.{touched_none, touched_next, touched_all}
use Rattle.renewal.proofs.touched.touched_rules.Goals as goal

pub loop-r-init : goal.loop-r-init
loop-r-init c = touched_none

pub offset_bounds-w2-root : goal.offset_bounds-w2-root
offset_bounds-w2-root c = omega (arith, root_low c.requires.3 c.wide-rules.ensures c.loop-r-test.true c.wide-root.ensures)

pub bounds-w2-root : goal.bounds-w2-root
bounds-w2-root c = omega (arith, root_low c.requires.3 c.wide-rules.ensures c.loop-r-test.true c.wide-root.ensures)

pub loop-r-preserved : goal.loop-r-preserved
loop-r-preserved c = search touched_next

pub returns : goal.returns
returns c = search touched_all
