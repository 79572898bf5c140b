-- `values::cells::copy_cells` meets its contract. Assumes nothing.
use native.Mathlib.Omega.{arith}
use mathlib.Core.Path.{refl}
use lib.ListN.{length-set}
use lib.Seq.{paste-zero}
use Rattle.values.proofs.Copying.{paste_more, paste_done}
use Rattle.values.proofs.cells.copy_cells.Goals as goal

pub loop-i-init : goal.loop-i-init
loop-i-init c = (paste-zero c.args.stack.now c.args.at c.args.cells.now, refl)

pub loop-i-preserved : goal.loop-i-preserved
loop-i-preserved c = (paste_more c.args.stack.now c.args.cells.now c.args.at c.loop-i.i c.loop-i.invariant.0 (omega arith) c.loop-i-test.true, simp length-set c.loop-i.invariant.1)

pub returns : goal.returns
returns c = paste_done c.args.stack.now c.args.cells.now c.args.at c.loop-i.i c.loop-i.invariant.0 (omega arith) (omega arith)
