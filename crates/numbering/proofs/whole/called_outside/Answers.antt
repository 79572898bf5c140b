-- `called_outside` meets its contract. Assumes nothing.
use mathlib.Core.Path.{sym}
use native.Mathlib.Omega.{arith}
use lib.Seq.{length-take-le}
use borrow.Author.Rules.{rules}
use Rattle.memory.specs.Map as memory
use Rattle.numbering.proofs.Roots.{not_called, called_late, called_found}
use Rattle.numbering.proofs.whole.called_outside.Goals as goal

pub slice_bounds-nodes-end : goal.slice_bounds-nodes-end
slice_bounds-nodes-end c = sym (length-take-le _ c.args.w1.now (omega arith))

pub node_word-requires : goal.node_word-requires
node_word-requires c = let l = length-take-le memory.nodes_end c.args.w1.now (omega arith) in search rules

pub returns-then-node_word-ne-CALL : goal.returns-then-node_word-ne-CALL
returns-then-node_word-ne-CALL c = search not_called

pub node_word-requires-2 : goal.node_word-requires-2
node_word-requires-2 c = let l = length-take-le memory.nodes_end c.args.w1.now (omega arith) in search rules

pub returns-then-n-a : goal.returns-then-n-a
returns-then-n-a c = search called_late

pub node_word-requires-3 : goal.node_word-requires-3
node_word-requires-3 c = let l = length-take-le memory.nodes_end c.args.w1.now (omega arith) in search rules

pub returns : goal.returns
returns c = search called_found
