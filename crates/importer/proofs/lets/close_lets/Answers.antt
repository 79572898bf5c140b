-- `close_lets` meets its contract.
use native.Mathlib.Omega.{arith}
use Rattle.importer.proofs.CloseLaws.{close_all, close_value, close_body}
use Rattle.importer.proofs.lets.close_lets.Goals as goal

pub returns-then-root-eq0 : goal.returns-then-root-eq0
returns-then-root-eq0 c = close_value _ _ _ _ _ c.loop-i.invariant c.loop-i-test.true (omega (arith, c.loop-i-test.true)) c.if-root-eq0.true

pub loop-i-preserved : goal.loop-i-preserved
loop-i-preserved c = close_body _ _ _ _ _ c.loop-i.invariant c.loop-i-test.true c.if-root-eq0.false c.built.ensures c.emit.ensures

pub returns : goal.returns
returns c = close_all _ _ _ _ _ c.loop-i.invariant c.loop-i-test.false
