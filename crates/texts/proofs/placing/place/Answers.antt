-- `place` meets its contract: the sheet with the first nodes.
use native.Mathlib.Omega.{arith}
use borrow.Author.Rules.{rules}
use mathlib.Core.Path.{◌≡◌}
use Rattle.std.specs.Prelude.{Err}
use Rattle.texts.proofs.PlacingLaws.{waits, placing_start, placing_next, placing_stop, placing_end}
use Rattle.texts.proofs.placing.place.Goals as goal

pub loop-i-init : goal.loop-i-init
loop-i-init c = search (placing_start, rules)

pub place_node-requires : goal.place_node-requires
place_node-requires c = let w = waits c.loop-i.i c.requires.5 c.loop-i-test.true c.emitted.ensures in (c.requires.0, omega (arith, c.loop-i.invariant.0.kept.size, c.requires.1), c.loop-i.invariant.0.fine, w.0, w.1)

pub returns-in_err-on : goal.returns-in_err-on
returns-in_err-on c = let e : c.from_residual.result ≡ Err c.in_err-on.field-0.0 = search rules in rw e (placing_stop c.loop-i.invariant.0 c.loop-i-test.true c.requires.4 c.emitted.ensures c.place_node.ensures c.in_err-on.was)

pub loop-i-preserved : goal.loop-i-preserved
loop-i-preserved c = (placing_next c.loop-i.invariant.0 c.loop-i-test.true c.requires.4 c.emitted.ensures c.place_node.ensures c.in_ok-on.was, search rules)

pub returns : goal.returns
returns c = search placing_end
