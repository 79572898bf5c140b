-- The measures of the recursion: the node's number falls, and within a node the gate for operands stands below its callers.
use Prim.Native.Nat.{◌+◌, ◌*◌}
use mathlib.Core.Path.{◌≡◌}
use lib.ListN.{length}
use Rattle.ocl.specs.Model.{Schema}
use Rattle.types.specs.Flat.{joined_type}
use Rattle.judgements.specs.Replies.{env_of, ReadsRows}
use Rattle.typing.proofs.Members.{Left}
use Rattle.typing.proofs.+binary_coll_conditional_connective_single_body_iterate_let_in_quantified_node_operand_pair.Given as goal

abbrev pub decreases-apply::binary : goal.decreases-apply::binary
decreases-apply::binary l = 16 * l.n + 10

abbrev pub decreases-scope::body : goal.decreases-scope::body
decreases-scope::body l = 16 * l.n + 1

abbrev pub decreases-apply::coll : goal.decreases-apply::coll
decreases-apply::coll l = 16 * l.n + 10

abbrev pub decreases-apply::conditional : goal.decreases-apply::conditional
decreases-apply::conditional l = 16 * l.n + 10

abbrev pub decreases-apply::connective : goal.decreases-apply::connective
decreases-apply::connective l = 16 * l.n + 10

abbrev pub decreases-scope::iterate : goal.decreases-scope::iterate
decreases-scope::iterate l = 16 * l.n + 10

abbrev pub decreases-scope::let_in : goal.decreases-scope::let_in
decreases-scope::let_in l = 16 * l.n + 10

abbrev pub decreases-walk::node : goal.decreases-walk::node
decreases-walk::node l = 16 * l.n + 11

abbrev pub decreases-walk::operand : goal.decreases-walk::operand
decreases-walk::operand l = 16 * l.n

abbrev pub decreases-walk::pair : goal.decreases-walk::pair
decreases-walk::pair l = 16 * l.n + 1

abbrev pub decreases-scope::quantified : goal.decreases-scope::quantified
decreases-scope::quantified l = 16 * l.n + 10

abbrev pub decreases-apply::single : goal.decreases-apply::single
decreases-apply::single l = 16 * l.n + 10

abbrev pub invariant-apply::coll-loop-i : goal.invariant-apply::coll-loop-i
invariant-apply::coll-loop-i l = (length l.marks ≡ length l.initial.marks) × ((m : Schema) → ReadsRows l.parents l.tables l.rows m → Left m l.nodes l.n l.form l.count l.i (joined_type l.common) (env_of l.env) l.initial.marks l.marks)
