-- The measures of the cycle, and what each member is given at a measure and asked below one.
use Prim.Native.Nat.{◌+◌, ◌*◌, ◌-◌}
use Rattle.nodes.specs.Nodes.{kind_of, word, variable, quantifier_of}
use Rattle.evaluation.specs.Evaluating.{ReadsWorld, operand_for}
use Rattle.evaluation.proofs.AssembleLaws.{Gathering}
use Rattle.evaluation.proofs.FoldLaws.{Folding}
use Rattle.evaluation.proofs.LoopLaws.{Seeking}
use Rattle.evaluation.proofs.+call_fold_iter_let_in_quantified_seek_conditional_connective_right_below_binary_coll_node_unary_word.Given as goal

abbrev pub decreases-walk::below : goal.decreases-walk::below
decreases-walk::below l = 5 * l.n

abbrev pub decreases-walk::binary : goal.decreases-walk::binary
decreases-walk::binary l = 5 * l.n + 2

abbrev pub decreases-bind::call : goal.decreases-bind::call
decreases-bind::call l = 5 * l.n + 2

abbrev pub decreases-walk::coll : goal.decreases-walk::coll
decreases-walk::coll l = 5 * l.n + 2

abbrev pub decreases-lazy::conditional : goal.decreases-lazy::conditional
decreases-lazy::conditional l = 5 * l.n + 2

abbrev pub decreases-lazy::connective : goal.decreases-lazy::connective
decreases-lazy::connective l = 5 * l.n + 2

abbrev pub decreases-bind::fold : goal.decreases-bind::fold
decreases-bind::fold l = 5 * l.n + 1

abbrev pub decreases-bind::iter : goal.decreases-bind::iter
decreases-bind::iter l = 5 * l.n + 2

abbrev pub decreases-bind::let_in : goal.decreases-bind::let_in
decreases-bind::let_in l = 5 * l.n + 2

abbrev pub decreases-walk::node : goal.decreases-walk::node
decreases-walk::node l = 5 * l.n + 3

abbrev pub decreases-bind::quantified : goal.decreases-bind::quantified
decreases-bind::quantified l = 5 * l.n + 2

abbrev pub decreases-lazy::right : goal.decreases-lazy::right
decreases-lazy::right l = 5 * l.n + 1

abbrev pub decreases-bind::seek : goal.decreases-bind::seek
decreases-bind::seek l = 5 * l.n + 1

abbrev pub decreases-walk::unary : goal.decreases-walk::unary
decreases-walk::unary l = 5 * l.n + 2

abbrev pub decreases-walk::word : goal.decreases-walk::word
decreases-walk::word l = 5 * l.n + 4

abbrev pub invariant-walk::coll-loop-k : goal.invariant-walk::coll-loop-k
invariant-walk::coll-loop-k l = Gathering (ReadsWorld l.st l.tables l.nodes) l.nodes l.n (kind_of l.form) l.env l.sp l.left l.count l.initial.stack l.stack l.initial.s l.s l.end l.k

abbrev pub invariant-bind::fold-loop-p : goal.invariant-bind::fold-loop-p
invariant-bind::fold-loop-p l = Folding (ReadsWorld l.st l.tables l.nodes) (variable (word l.nodes l.n 4)) (variable (word l.nodes l.n 5)) (operand_for l.nodes l.n 3) l.env l.sp (l.sp + l.la) l.lb l.initial.stack l.stack l.initial.s l.s l.p l.len

abbrev pub decreases-bind::fold-loop-p : goal.decreases-bind::fold-loop-p
decreases-bind::fold-loop-p l = l.sp + l.la - l.p

abbrev pub invariant-bind::seek-loop-p : goal.invariant-bind::seek-loop-p
invariant-bind::seek-loop-p l = Seeking (ReadsWorld l.st l.tables l.nodes) (quantifier_of l.form) (variable (word l.nodes l.n 3)) (operand_for l.nodes l.n 2) l.env l.sp (l.sp + l.la) l.initial.stack l.stack l.initial.s l.blank l.s l.p

abbrev pub decreases-bind::seek-loop-p : goal.decreases-bind::seek-loop-p
decreases-bind::seek-loop-p l = l.sp + l.la - l.p
