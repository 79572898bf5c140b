-- `worst` meets its contract. Assumes nothing.
use native.Mathlib.Omega.{arith}
use Rattle.operations.proofs.StandingLaws.{worst_start, worst_again, worst_end}
use Rattle.operations.proofs.collect.worst.Goals as goal

pub loop-q-init : goal.loop-q-init
loop-q-init c = worst_start (omega arith) (omega arith)

pub loop-q-smaller : goal.loop-q-smaller
loop-q-smaller c = omega (arith, c.skip-r.ensures.up c.loop-q-test.true)

pub loop-q-preserved : goal.loop-q-preserved
loop-q-preserved c = search worst_again

pub returns : goal.returns
returns c = search worst_end
