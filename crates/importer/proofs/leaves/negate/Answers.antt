-- `negate` meets its contract.
use native.Mathlib.Omega.{arith}
use Rattle.importer.proofs.NegateLaws.{negate_start, negate_end, negate_next}
use Rattle.importer.proofs.leaves.negate.Goals as goal

pub loop-m-init : goal.loop-m-init
loop-m-init c = negate_start _ _ _

pub loop-m-preserved : goal.loop-m-preserved
loop-m-preserved c = negate_next _ _ _ c.loop-m.invariant c.requires.1 c.built.ensures c.emit.ensures

pub returns : goal.returns
returns c = negate_end _ _ _ c.loop-m.invariant (omega (arith, c.loop-m.auto.m-end, c.loop-m-test.false))
