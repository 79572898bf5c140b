-- The measures of the recursion: the node's number falls, and within a node the gate for operands stands below its callers.
use Prim.Native.Nat.{◌+◌, ◌*◌}
use mathlib.Core.Path.{◌≡◌}
use lib.ListN.{length}
use Rattle.numbering.proofs.Findings.{Left}
use Rattle.numbering.proofs.walk.+body_node_operand_operands_scope.Given as goal

abbrev pub decreases-body : goal.decreases-body
decreases-body l = 8 * l.n + 1

abbrev pub decreases-node : goal.decreases-node
decreases-node l = 8 * l.n + 3

abbrev pub decreases-operand : goal.decreases-operand
decreases-operand l = 8 * l.n

abbrev pub decreases-operands : goal.decreases-operands
decreases-operands l = 8 * l.n + 1

abbrev pub decreases-scope : goal.decreases-scope
decreases-scope l = 8 * l.n + 2

abbrev pub invariant-operands-loop-i : goal.invariant-operands-loop-i
invariant-operands-loop-i l = (length l.marks ≡ length l.initial.marks) × Left l.nodes l.least l.parents l.tables l.rows l.n l.env l.count l.best l.i l.found
