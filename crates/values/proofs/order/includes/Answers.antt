-- `values::order::includes` meets its contract. Assumes nothing.
use native.Mathlib.Omega.{arith}
use Rattle.values.proofs.Seeking.{seek_start, seek_found, seek_again, seek_end}
use Rattle.values.proofs.order.includes.Goals as goal

pub loop-q-init : goal.loop-q-init
loop-q-init c = seek_start (omega arith) (omega arith)

pub equal-requires : goal.equal-requires
equal-requires c = let u = c.skip-r.ensures.up c.loop-q-test.true in omega arith

pub returns-then-equal : goal.returns-then-equal
returns-then-equal c = search seek_found

pub loop-q-smaller : goal.loop-q-smaller
loop-q-smaller c = omega (arith, c.skip-r.ensures.up c.loop-q-test.true)

pub loop-q-preserved : goal.loop-q-preserved
loop-q-preserved c = search seek_again

pub returns : goal.returns
returns c = search seek_end
