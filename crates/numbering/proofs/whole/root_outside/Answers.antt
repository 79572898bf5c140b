-- `root_outside` meets its contract. Assumes nothing.
use mathlib.Core.Path.{sym}
use native.Mathlib.Omega.{arith}
use lib.ListN.{length-drop}
use lib.Seq.{length-take-le}
use borrow.Author.Rules.{rules}
use Rattle.memory.specs.Map as memory
use Rattle.numbering.proofs.Roots.{root_found}
use Rattle.numbering.proofs.whole.root_outside.Goals as goal

pub slice_bounds-parents-end : goal.slice_bounds-parents-end
slice_bounds-parents-end c = sym (length-take-le _ c.args.w0.now (omega arith))

pub slice_bounds-nodes-end : goal.slice_bounds-nodes-end
slice_bounds-nodes-end c = sym (length-take-le _ c.args.w1.now (omega arith))

pub slice_bounds-marks-end-2 : goal.slice_bounds-marks-end-2
slice_bounds-marks-end-2 c = sym (length-take-le 768 c.args.w2.now (omega arith))

pub node-requires : goal.node-requires
node-requires c = let l = length-take-le memory.nodes_end c.args.w1.now (omega arith) in let d = length-drop memory.depths c.args.w1.now in let m = length-take-le 768 c.args.w2.now (omega arith) in search rules

pub returns : goal.returns
returns c = search root_found
