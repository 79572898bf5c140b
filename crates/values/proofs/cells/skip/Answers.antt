-- `values::cells::skip` meets its contract. Assumes nothing.
use mathlib.Core.Path.{refl}
use native.Mathlib.Omega.{arith}
use Rattle.values.proofs.Scanning.{skip_again, skips, skips_over}
use Rattle.values.proofs.cells.skip.Goals as goal

pub loop-n-init : goal.loop-n-init
loop-n-init c = record { room = omega arith; from = omega arith; below = omega arith; same = refl }

pub returns-then-limit-q : goal.returns-then-limit-q
returns-then-limit-q c = search skips_over

pub loop-n-preserved : goal.loop-n-preserved
loop-n-preserved c = skip_again c.loop-n.invariant c.member_count.ensures.0 (omega arith) (omega arith) refl

pub returns : goal.returns
returns c = skips c.loop-n.invariant (omega arith)
