use mathlib.Core.Path.{◌∙◌, ap, sym}
use Rattle.evaluation.proofs.NodeLaws.{below_done, below_stop, below_late, below_levels, low_code, lone_code, high_code, single_codes, single_levels, two_codes, over_37, node_leaf, node_unary, node_binary, node_connective, node_quantified, node_assemble, node_conditional, node_let, node_iterate, node_call, node_none, shallow, node_packed}
use Prim.Native.Nat.{ℕ, ◌+◌, ◌-◌, ◌%◌}
use native.Mathlib.Omega.{arith}
use borrow.Author.Rules.{rules}
use Rattle.evaluation.proofs.Composition.{bounds, its_place}
use Rattle.evaluation.proofs.FormLaws.{binary_first, binary_stuck, binary_second, binary_done, conditional_first, conditional_stuck, conditional_then, conditional_else, iterate_first, iterate_stuck, iterate_second, iterate_done, let_first, let_second, let_done, quantified_first, quantified_stuck, quantified_done, unary_value, unary_undefined, unary_stuck, unary_stop}
use mathlib.Core.Logic.{inl, inr}
use Rattle.evaluation.proofs.CallLaws.{call_first, call_stuck, call_second, call_done}
use Rattle.nodes.proofs.Levels.{some_level, binary_levels, connective_levels, quantified_levels, conditional_levels, let_levels, iterate_levels, call_levels}
use Rattle.evaluation.specs.Evaluating.{operand_tree}
use Rattle.evaluation.proofs.AssembleLaws.{gather_starts, assemble_done, assemble_early, assemble_again, assemble_over, kind_number}
use Rattle.evaluation.specs.Traces.{no_place, a_place}
use Rattle.evaluation.proofs.ConnectiveLaws.{connective_ends, connective_stops, connective_stuck, connective_decided, connective_known, connective_unknown, right_ends, right_stops, right_undefined, right_stuck, right_known, right_decided, right_undecided, decides_code}
use Rattle.nodes.specs.Nodes.{tree_at}
use Rattle.evaluation.proofs.FoldLaws.{fold_starts, fold_none, fold_early, fold_again}
use Rattle.evaluation.proofs.LoopLaws.{seek_starts, seek_none, seek_blank, seek_early, seek_past, seek_stuck, seek_ends, seek_again}
use Rattle.evaluation.proofs.+call_fold_iter_let_in_quantified_seek_conditional_connective_right_below_binary_coll_node_unary_word.Goals as goal
use Rattle.evaluation.proofs.+call_fold_iter_let_in_quantified_seek_conditional_connective_right_below_binary_coll_node_unary_word.Goals.{walk::node-in-37-1, walk::node-in_default+else-form-lt7+else-form-lt13+then-form-lt23, walk::node-in-30-1, walk::node-in_default+else-form-lt7+then-form-lt13, walk::node-in_default+else-form-lt7+else-form-lt13+else-form-lt23+else-form-lt25+else-form-lt27+else-form-lt30+then-form-lt35}
use Rattle.evaluation.proofs.+call_fold_iter_let_in_quantified_seek_conditional_connective_right_below_binary_coll_node_unary_word.Goals.{lazy::right-then-place-eq0-via-then-place-eq0, lazy::right-then-place-eq0-via-else-place-eq0+then-t-form}

pub walk::below-returns-then-steps-ge-LIMIT : goal.walk::below-returns-then-steps-ge-LIMIT
walk::below-returns-then-steps-ge-LIMIT t c = below_stop _ _ _ c.if-steps-ge-LIMIT.true

pub walk::below-word-requires : goal.walk::below-word-requires
walk::below-word-requires t c = omega (arith, c.requires, c.if-steps-ge-LIMIT.false, below_levels c.args.nodes.now c.args.n c.args.k c.wide-a.result (c.wide-a.ensures ∙ c.node_word.ensures) c.if-a-n.true)

pub walk::below-returns-then-a-n : goal.walk::below-returns-then-a-n
walk::below-returns-then-a-n t c = rw c.unpack.ensures (below_done _ _ _ _ (c.wide-a.ensures ∙ c.node_word.ensures) c.if-a-n.true c.word.ensures)

pub walk::below-returns : goal.walk::below-returns
walk::below-returns t c = below_late _ _ _ _ (c.wide-a.ensures ∙ c.node_word.ensures) c.if-a-n.false c.if-steps-ge-LIMIT.false c.place_of.ensures

pub walk::binary-returns-in_default : goal.walk::binary-returns-in_default
walk::binary-returns-in_default t c = search binary_first

pub walk::binary-overflow_add-sp : goal.walk::binary-overflow_add-sp
walk::binary-overflow_add-sp t c = omega (arith, bounds c.below-first.ensures.small c.in-Value.is, c.requires)

pub walk::binary-below-second-requires : goal.walk::binary-below-second-requires
walk::binary-below-second-requires t c = omega (arith, bounds c.below-first.ensures.small c.in-Value.is, c.requires, c.below-first.auto)

pub walk::binary-returns-in_default-second : goal.walk::binary-returns-in_default-second
walk::binary-returns-in_default-second t c = search binary_second

pub walk::binary-binary_apply-value-requires : goal.walk::binary-binary_apply-value-requires
walk::binary-binary_apply-value-requires t c = omega (arith, bounds c.below-first.ensures.small c.in-Value.is, bounds c.below-second.ensures.small c.in-Value-second.is, c.requires, c.below-first.auto, c.below-second.auto)

pub walk::binary-place_of-requires : goal.walk::binary-place_of-requires
walk::binary-place_of-requires t c = omega (arith, c.requires)

pub walk::binary-returns-in-Value-second : goal.walk::binary-returns-in-Value-second
walk::binary-returns-in-Value-second t c = binary_done _ _ _ c.below-first.ensures c.requires.stack_room.node c.in-Value.is c.left_fits.ensures c.if-left_fits.true c.below-second.ensures c.in-Value-second.is c.requires.equal_le_form.1 c.requires.equal_le_form.2 c.binary_apply-value.ensures c.place_of.ensures c.arose.ensures

pub walk::binary-returns-else-left_fits : goal.walk::binary-returns-else-left_fits
walk::binary-returns-else-left_fits t c = search binary_stuck

pub bind::call-returns-in_default : goal.bind::call-returns-in_default
bind::call-returns-in_default t c = search call_first

pub bind::call-overflow_add-top : goal.bind::call-overflow_add-top
bind::call-overflow_add-top t c = omega (arith, bounds c.below-first.ensures.small c.in-Value.is, c.requires)

pub bind::call-below-body-requires : goal.bind::call-below-body-requires
bind::call-below-body-requires t c = omega (arith, bounds c.below-first.ensures.small c.in-Value.is, c.requires, c.below-first.auto)

pub bind::call-returns-in_default-body : goal.bind::call-returns-in_default-body
bind::call-returns-in_default-body t c = search call_second

pub bind::call-slide-requires : goal.bind::call-slide-requires
bind::call-slide-requires t c = record { len_in_bounds = omega (arith, bounds c.below-first.ensures.small c.in-Value.is, bounds c.below-body.ensures.small c.in-Value-body.is, c.requires, c.below-first.auto, c.below-body.auto); fact = inl (omega (arith, bounds c.below-first.ensures.small c.in-Value.is)) }

pub bind::call-returns-in-Value-body : goal.bind::call-returns-in-Value-body
bind::call-returns-in-Value-body t c = call_done _ _ c.below-first.ensures c.in-Value.is c.node_word-c.ensures c.is_object.ensures c.if-is_object.true c.below-body.ensures c.in-Value-body.is (omega (arith, bounds c.below-first.ensures.small c.in-Value.is, c.requires, c.below-first.auto, c.below-body.auto)) c.slide.ensures.front

pub bind::call-returns-else-is_object : goal.bind::call-returns-else-is_object
bind::call-returns-else-is_object t c = search call_stuck

pub walk::coll-returns-then-count-gt4 : goal.walk::coll-returns-then-count-gt4
walk::coll-returns-then-count-gt4 t c = assemble_over _ _ _ (c.wide-count.ensures ∙ c.node_word.ensures) c.if-count-gt4.true c.requires.stack_room.node c.requires.set_le_form.2 c.requires.set_le_form.3 c.place_of.ensures

pub walk::coll-loop-k-init : goal.walk::coll-loop-k-init
walk::coll-loop-k-init t c = gather_starts

pub walk::coll-below-member-requires : goal.walk::coll-below-member-requires
walk::coll-below-member-requires t c = omega (arith, c.decreases, c.requires.stack_room, c.loop-k.invariant.long, c.loop-k.invariant.near, c.loop-k-test.true, c.if-count-gt4.false, c.requires.set_le_form.4.members (omega (arith, c.wide-count.ensures, c.node_word.ensures, c.if-count-gt4.false)) c.loop-k.k (omega (arith, c.wide-count.ensures, c.node_word.ensures, c.loop-k-test.true)))

pub walk::coll-returns-in_default : goal.walk::coll-returns-in_default
walk::coll-returns-in_default t c = assemble_early _ _ _ (c.wide-count.ensures ∙ c.node_word.ensures) c.if-count-gt4.false c.loop-k.invariant c.loop-k-test.true c.below-member.ensures c.in_default.not-Value

pub walk::coll-overflow_add-end : goal.walk::coll-overflow_add-end
walk::coll-overflow_add-end t c = omega (arith, bounds c.below-member.ensures.small c.in-Value.is, c.loop-k.invariant.room, c.requires.stack_room)

pub walk::coll-loop-k-preserved : goal.walk::coll-loop-k-preserved
walk::coll-loop-k-preserved t c = assemble_again _ _ _ (c.wide-count.ensures ∙ c.node_word.ensures) c.if-count-gt4.false c.loop-k.invariant c.loop-k-test.true c.below-member.ensures c.in-Value.is c.below-member.auto.stack (omega (arith, some_level (operand_tree c.args.nodes.now c.args.n (c.loop-k.k + 1)), c.requires.set_le_form.4.members (omega (arith, c.wide-count.ensures, c.node_word.ensures, c.if-count-gt4.false)) c.loop-k.k (omega (arith, c.wide-count.ensures, c.node_word.ensures, c.loop-k-test.true)))) (omega (arith, c.loop-k.invariant.long, c.loop-k.invariant.room, c.requires.stack_room, c.below-member.auto.stack))

pub walk::coll-returns : goal.walk::coll-returns
walk::coll-returns t c = assemble_done _ _ _ (c.wide-count.ensures ∙ c.node_word.ensures) c.if-count-gt4.false c.loop-k.invariant _ c.loop-k-test.false (kind_number c.args.form c.requires.set_le_form.0 c.requires.set_le_form.1) (omega (arith, c.loop-k.invariant.long, c.requires.stack_room)) c.assemble.ensures c.formed-value.ensures c.requires.stack_room.node c.requires.set_le_form.2 c.requires.set_le_form.3 c.place_of-2.ensures c.arose.ensures

pub lazy::conditional-returns-in_default : goal.lazy::conditional-returns-in_default
lazy::conditional-returns-in_default t c = search conditional_first

pub lazy::conditional-returns-in-1 : goal.lazy::conditional-returns-in-1
lazy::conditional-returns-in-1 t c = search conditional_then

pub lazy::conditional-returns-in-0 : goal.lazy::conditional-returns-in-0
lazy::conditional-returns-in-0 t c = search conditional_else

pub lazy::conditional-returns-in_default-truth : goal.lazy::conditional-returns-in_default-truth
lazy::conditional-returns-in_default-truth t c = search conditional_stuck

pub lazy::connective-returns-then-t-gt1 : goal.lazy::connective-returns-then-t-gt1
lazy::connective-returns-then-t-gt1 t c = search connective_stuck

pub lazy::connective-returns-then-t-form : goal.lazy::connective-returns-then-t-form
lazy::connective-returns-then-t-form t c = search connective_decided

pub lazy::connective-right-requires : goal.lazy::connective-right-requires
lazy::connective-right-requires t c = (omega (arith, c.requires), (omega (arith, c.requires, c.below-first.auto), (omega (arith, c.requires), no_place)))

pub lazy::connective-right-requires-in-Undef : goal.lazy::connective-right-requires-in-Undef
lazy::connective-right-requires-in-Undef t c = (omega (arith, c.requires), (omega (arith, c.requires, c.below-first.auto), (omega (arith, c.requires), a_place (its_place c.below-first.ensures.small c.in-Undef.is))))

pub lazy::connective-returns-else-t-form : goal.lazy::connective-returns-else-t-form
lazy::connective-returns-else-t-form t c = search connective_known

pub lazy::connective-returns-in-Undef : goal.lazy::connective-returns-in-Undef
lazy::connective-returns-in-Undef t c = search connective_unknown

pub lazy::connective-returns-in-Stuck : goal.lazy::connective-returns-in-Stuck
lazy::connective-returns-in-Stuck t c = search connective_ends

pub lazy::connective-returns-in-Stop : goal.lazy::connective-returns-in-Stop
lazy::connective-returns-in-Stop t c = search connective_stops

pub bind::fold-loop-p-init : goal.bind::fold-loop-p-init
bind::fold-loop-p-init t c = fold_starts (omega (arith, c.requires)) (omega (arith, c.requires)) (omega (arith, c.requires))

pub bind::fold-returns-in_default : goal.bind::fold-returns-in_default
bind::fold-returns-in_default t c = fold_early c.loop-p.invariant (omega (arith, c.requires)) c.requires.i_value.0 c.requires.i_value.1 (omega (arith, c.requires.i_value.0)) (omega (arith, c.requires.i_value.1)) (omega (arith, c.requires)) c.loop-p-test.true c.below-turn.ensures c.in_default.not-Value

pub bind::fold-slide-requires : goal.bind::fold-slide-requires
bind::fold-slide-requires t c = record { len_in_bounds = omega (arith, c.requires, c.loop-p.invariant.long, c.loop-p.invariant.small, c.below-turn.auto.stack, bounds c.below-turn.ensures.small c.in-Value.is); fact = inl (omega arith) }

pub bind::fold-loop-p-smaller : goal.bind::fold-loop-p-smaller
bind::fold-loop-p-smaller t c = omega (arith, c.skip-p.ensures.up c.loop-p-test.true, c.skip-p.ensures.within, c.loop-p-test.true)

pub bind::fold-loop-p-preserved : goal.bind::fold-loop-p-preserved
bind::fold-loop-p-preserved t c = fold_again c.loop-p.invariant (omega (arith, c.requires)) c.requires.i_value.0 c.requires.i_value.1 (omega (arith, c.requires.i_value.0)) (omega (arith, c.requires.i_value.1)) (omega (arith, c.requires)) c.loop-p-test.true c.below-turn.ensures c.in-Value.is c.below-turn.auto.stack c.slide.auto.stack (omega (arith, c.requires, c.loop-p.invariant.long, c.loop-p.invariant.small, c.below-turn.auto.stack)) c.slide.ensures.front c.skip-p.ensures

pub bind::fold-slide-requires-2 : goal.bind::fold-slide-requires-2
bind::fold-slide-requires-2 t c = record { len_in_bounds = omega (arith, c.requires, c.loop-p.invariant.long, c.loop-p.invariant.small); fact = inl (omega arith) }

pub bind::fold-returns : goal.bind::fold-returns
bind::fold-returns t c = fold_none c.loop-p.invariant (omega (arith, c.requires)) c.loop-p-test.false c.slide-2.ensures.front

pub bind::iter-returns-in_default : goal.bind::iter-returns-in_default
bind::iter-returns-in_default t c = search iterate_first

pub bind::iter-returns-then-sort_of-lt-SET : goal.bind::iter-returns-then-sort_of-lt-SET
bind::iter-returns-then-sort_of-lt-SET t c = search iterate_stuck

pub bind::iter-overflow_add-sp : goal.bind::iter-overflow_add-sp
bind::iter-overflow_add-sp t c = omega (arith, bounds c.below-first.ensures.small c.in-Value.is, c.requires)

pub bind::iter-below-second-requires : goal.bind::iter-below-second-requires
bind::iter-below-second-requires t c = omega (arith, bounds c.below-first.ensures.small c.in-Value.is, c.requires, c.below-first.auto)

pub bind::iter-returns-in_default-second : goal.bind::iter-returns-in_default-second
bind::iter-returns-in_default-second t c = iterate_second _ _ c.below-first.ensures c.in-Value.is c.sort_of.ensures c.if-sort_of-lt-SET.false (omega (arith, bounds c.below-first.ensures.small c.in-Value.is, c.requires, c.below-first.auto)) c.below-second.ensures c.in_default-second.not-Value

pub bind::iter-node_word-requires : goal.bind::iter-node_word-requires
bind::iter-node_word-requires t c = omega (arith, c.requires)

pub bind::iter-node_word-requires-2 : goal.bind::iter-node_word-requires-2
bind::iter-node_word-requires-2 t c = omega (arith, c.requires)

pub bind::iter-fold-requires : goal.bind::iter-fold-requires
bind::iter-fold-requires t c = omega (arith, bounds c.below-first.ensures.small c.in-Value.is, bounds c.below-second.ensures.small c.in-Value-second.is, c.requires, c.below-first.auto, c.below-second.auto, c.wide-i.ensures, c.node_word.ensures, c.wide-j.ensures, c.node_word-2.ensures)

pub bind::iter-shape_of-stack : goal.bind::iter-shape_of-stack
bind::iter-shape_of-stack t c = omega (arith, c.below-first.auto, c.below-second.auto, c.fold.auto)

pub bind::iter-returns : goal.bind::iter-returns
bind::iter-returns t c = iterate_done _ _ c.below-first.ensures c.in-Value.is c.sort_of.ensures c.if-sort_of-lt-SET.false (omega (arith, bounds c.below-first.ensures.small c.in-Value.is, c.requires, c.below-first.auto)) c.below-second.ensures c.in-Value-second.is c.fold.ensures

pub bind::let_in-returns-in_default : goal.bind::let_in-returns-in_default
bind::let_in-returns-in_default t c = search let_first

pub bind::let_in-overflow_add-mid : goal.bind::let_in-overflow_add-mid
bind::let_in-overflow_add-mid t c = omega (arith, bounds c.below-bound.ensures.small c.in-Value.is, c.requires)

pub bind::let_in-below-second-requires : goal.bind::let_in-below-second-requires
bind::let_in-below-second-requires t c = omega (arith, bounds c.below-bound.ensures.small c.in-Value.is, c.requires, c.below-bound.auto)

pub bind::let_in-returns-in_default-second : goal.bind::let_in-returns-in_default-second
bind::let_in-returns-in_default-second t c = let_second _ _ c.below-bound.ensures c.in-Value.is (c.wide-i.ensures ∙ ap (λ (x : ℕ). x % 16) c.node_word.ensures) c.below-second.ensures c.in_default-second.not-Value

pub bind::let_in-slide-requires : goal.bind::let_in-slide-requires
bind::let_in-slide-requires t c = record { len_in_bounds = omega (arith, bounds c.below-bound.ensures.small c.in-Value.is, bounds c.below-second.ensures.small c.in-Value-second.is, c.requires, c.below-bound.auto, c.below-second.auto); fact = inl (omega (arith, bounds c.below-bound.ensures.small c.in-Value.is)) }

pub bind::let_in-returns : goal.bind::let_in-returns
bind::let_in-returns t c = let_done _ _ c.below-bound.ensures c.in-Value.is (c.wide-i.ensures ∙ ap (λ (x : ℕ). x % 16) c.node_word.ensures) c.below-second.ensures c.in-Value-second.is (omega (arith, bounds c.below-bound.ensures.small c.in-Value.is, c.requires, c.below-bound.auto, c.below-second.auto)) c.slide.ensures.front

pub walk::node-overflow_sub-deeper : goal.walk::node-overflow_sub-deeper
walk::node-overflow_sub-deeper t c = omega (arith, c.requires, some_level (tree_at c.args.nodes.now c.args.n))

pub walk::node-conditional-requires : goal.walk::node-conditional-requires
walk::node-conditional-requires t c = omega (arith, c.requires, some_level (tree_at c.args.nodes.now c.args.n), conditional_levels c.args.nodes.now c.args.n c.node_word-form.result c.node_word-form.ensures c.in-31.is)

pub walk::node-let_in-requires : goal.walk::node-let_in-requires
walk::node-let_in-requires t c = omega (arith, c.requires, some_level (tree_at c.args.nodes.now c.args.n), let_levels c.args.nodes.now c.args.n c.node_word-form.result c.node_word-form.ensures c.in-32.is)

pub walk::node-iter-requires : goal.walk::node-iter-requires
walk::node-iter-requires t c = omega (arith, c.requires, some_level (tree_at c.args.nodes.now c.args.n), iterate_levels c.args.nodes.now c.args.n c.node_word-form.result c.node_word-form.ensures c.in-35.is)

pub walk::node-call-requires : goal.walk::node-call-requires
walk::node-call-requires t c = omega (arith, c.requires, some_level (tree_at c.args.nodes.now c.args.n), call_levels c.args.nodes.now c.args.n c.node_word-form.result c.node_word-form.ensures c.in-36.is)

pub walk::node-connective-requires : goal.walk::node-connective-requires
walk::node-connective-requires t c = omega (arith, c.requires, some_level (tree_at c.args.nodes.now c.args.n), connective_levels c.args.nodes.now c.args.n c.node_word-form.result c.node_word-form.ensures (omega arith) (omega arith))

pub walk::node-quantified-requires : goal.walk::node-quantified-requires
walk::node-quantified-requires t c = omega (arith, c.wide-i.ensures, c.node_word-in-25-to-26.ensures, c.requires, some_level (tree_at c.args.nodes.now c.args.n), quantified_levels c.args.nodes.now c.args.n c.node_word-form.result c.node_word-form.ensures (omega arith) (omega arith))

pub walk::node-coll-requires : goal.walk::node-coll-requires
walk::node-coll-requires t c = (omega (arith, c.requires), (omega (arith, c.requires, some_level (tree_at c.args.nodes.now c.args.n)), (omega arith, omega arith, omega (arith, c.requires), omega (arith, c.requires), shallow c.args.nodes.now c.args.n c.node_word-form.result (c.args.left - 1) c.node_word-form.ensures (omega arith) (omega arith) (omega (arith, c.requires, some_level (tree_at c.args.nodes.now c.args.n))))))

pub walk::node-binary-requires : goal.walk::node-binary-requires
walk::node-binary-requires t c = omega (arith, c.requires, some_level (tree_at c.args.nodes.now c.args.n), two_codes {k = c.node_word-form.result} (elim c.in-13-to-22-1.branch [ walk::node-in-37-1 w ↦ inl (search rules) | walk::node-in_default+else-form-lt7+else-form-lt13+then-form-lt23 w ↦ inr (omega arith, omega arith) ]), binary_levels c.args.nodes.now c.args.n c.node_word-form.result c.node_word-form.ensures (elim c.in-13-to-22-1.branch [ walk::node-in-37-1 w ↦ inl (search rules) | walk::node-in_default+else-form-lt7+else-form-lt13+then-form-lt23 w ↦ inr (omega arith, omega arith) ]))

pub walk::node-unary-requires : goal.walk::node-unary-requires
walk::node-unary-requires t c = omega (arith, c.requires, some_level (tree_at c.args.nodes.now c.args.n), single_codes {k = c.node_word-form.result} (elim c.in-7-to-12-1.branch [ walk::node-in-30-1 w ↦ lone_code (search rules) | walk::node-in_default+else-form-lt7+then-form-lt13 w ↦ low_code (omega arith) (omega arith) | walk::node-in_default+else-form-lt7+else-form-lt13+else-form-lt23+else-form-lt25+else-form-lt27+else-form-lt30+then-form-lt35 w ↦ high_code (omega arith) (omega arith) ]), single_levels c.args.nodes.now c.args.n c.node_word-form.result c.node_word-form.ensures (elim c.in-7-to-12-1.branch [ walk::node-in-30-1 w ↦ lone_code (search rules) | walk::node-in_default+else-form-lt7+then-form-lt13 w ↦ low_code (omega arith) (omega arith) | walk::node-in_default+else-form-lt7+else-form-lt13+else-form-lt23+else-form-lt25+else-form-lt27+else-form-lt30+then-form-lt35 w ↦ high_code (omega arith) (omega arith) ]))

pub walk::node-returns-in-31 : goal.walk::node-returns-in-31
walk::node-returns-in-31 t c = search node_conditional

pub walk::node-returns-in-32 : goal.walk::node-returns-in-32
walk::node-returns-in-32 t c = search node_let

pub walk::node-returns-in-35 : goal.walk::node-returns-in-35
walk::node-returns-in-35 t c = search node_iterate

pub walk::node-returns-in-36 : goal.walk::node-returns-in-36
walk::node-returns-in-36 t c = search node_call

pub walk::node-returns-in-0-to-6 : goal.walk::node-returns-in-0-to-6
walk::node-returns-in-0-to-6 t c = search node_leaf

pub walk::node-returns-in-23-to-24 : goal.walk::node-returns-in-23-to-24
walk::node-returns-in-23-to-24 t c = search node_connective

pub walk::node-returns-in-25-to-26 : goal.walk::node-returns-in-25-to-26
walk::node-returns-in-25-to-26 t c = search node_quantified

pub walk::node-returns-in-27-to-29 : goal.walk::node-returns-in-27-to-29
walk::node-returns-in-27-to-29 t c = search node_assemble

pub walk::node-returns-in_default : goal.walk::node-returns-in_default
walk::node-returns-in_default t c = search (node_none, over_37)

pub walk::node-returns-in-13-to-22 : goal.walk::node-returns-in-13-to-22
walk::node-returns-in-13-to-22 t c = node_binary _ _ _ c.node_word-form.ensures c.requires.n_bound.1 (elim c.in-13-to-22-1.branch [ walk::node-in-37-1 w ↦ inl (search rules) | walk::node-in_default+else-form-lt7+else-form-lt13+then-form-lt23 w ↦ inr (omega arith, omega arith) ]) c.binary.ensures

pub walk::node-returns-in-7-to-12 : goal.walk::node-returns-in-7-to-12
walk::node-returns-in-7-to-12 t c = node_unary _ _ _ c.node_word-form.ensures c.requires.n_bound.1 (elim c.in-7-to-12-1.branch [ walk::node-in-30-1 w ↦ lone_code (search rules) | walk::node-in_default+else-form-lt7+then-form-lt13 w ↦ low_code (omega arith) (omega arith) | walk::node-in_default+else-form-lt7+else-form-lt13+else-form-lt23+else-form-lt25+else-form-lt27+else-form-lt30+then-form-lt35 w ↦ high_code (omega arith) (omega arith) ]) c.unary.ensures

pub bind::quantified-returns-in_default : goal.bind::quantified-returns-in_default
bind::quantified-returns-in_default t c = search quantified_first

pub bind::quantified-returns-then-sort_of-lt-SET : goal.bind::quantified-returns-then-sort_of-lt-SET
bind::quantified-returns-then-sort_of-lt-SET t c = search quantified_stuck

pub bind::quantified-seek-requires : goal.bind::quantified-seek-requires
bind::quantified-seek-requires t c = omega (arith, bounds c.below-first.ensures.small c.in-Value.is, c.requires, c.below-first.auto)

pub bind::quantified-returns : goal.bind::quantified-returns
bind::quantified-returns t c = quantified_done _ _ c.below-first.ensures c.in-Value.is c.sort_of.ensures c.if-sort_of-lt-SET.false (omega (arith, bounds c.below-first.ensures.small c.in-Value.is, c.requires, c.below-first.auto)) _ c.seek.ensures

pub lazy::right-returns-then-t-gt1 : goal.lazy::right-returns-then-t-gt1
lazy::right-returns-then-t-gt1 t c = search right_stuck

pub lazy::right-returns-then-place-eq0 : goal.lazy::right-returns-then-place-eq0
lazy::right-returns-then-place-eq0 t c =
    elim c.then-place-eq0.branch [
      | lazy::right-then-place-eq0-via-then-place-eq0 w ↦ right_known _ _ c.below-second.ensures c.in-Value.is c.truth-t.ensures c.if-t-gt1.false w.if-place-eq0.true
      | lazy::right-then-place-eq0-via-else-place-eq0+then-t-form w ↦
          right_decided _ _ c.below-second.ensures c.in-Value.is c.truth-t.ensures c.if-t-gt1.false w.if-place-eq0.false (w.if-t-form.true ∙ decides_code c.args.form c.requires.and_le_form.0 c.requires.and_le_form.1)
    ]

pub lazy::right-returns-else-t-form : goal.lazy::right-returns-else-t-form
lazy::right-returns-else-t-form t c = right_undecided _ _ c.below-second.ensures c.in-Value.is c.truth-t.ensures c.if-t-gt1.false c.if-place-eq0.false c.requires.perhaps (λ e. c.if-t-form.false (e ∙ sym (decides_code c.args.form c.requires.and_le_form.0 c.requires.and_le_form.1)))

pub lazy::right-returns-in-Undef : goal.lazy::right-returns-in-Undef
lazy::right-returns-in-Undef t c = search right_undefined

pub lazy::right-returns-in-Stuck : goal.lazy::right-returns-in-Stuck
lazy::right-returns-in-Stuck t c = search right_ends

pub lazy::right-returns-in-Stop : goal.lazy::right-returns-in-Stop
lazy::right-returns-in-Stop t c = search right_stops

pub bind::seek-loop-p-init : goal.bind::seek-loop-p-init
bind::seek-loop-p-init t c = seek_starts (omega (arith, c.requires))

pub bind::seek-loop-p-smaller-in-Undef : goal.bind::seek-loop-p-smaller-in-Undef
bind::seek-loop-p-smaller-in-Undef t c = omega (arith, c.skip-p.ensures.up c.loop-p-test.true, c.skip-p.ensures.within, c.loop-p-test.true)

pub bind::seek-loop-p-preserved-in-Undef : goal.bind::seek-loop-p-preserved-in-Undef
bind::seek-loop-p-preserved-in-Undef t c = search seek_past

pub bind::seek-returns-in_default-turn : goal.bind::seek-returns-in_default-turn
bind::seek-returns-in_default-turn t c = search seek_early

pub bind::seek-returns-then-t-gt1 : goal.bind::seek-returns-then-t-gt1
bind::seek-returns-then-t-gt1 t c = seek_stuck _ _ c.loop-p.invariant c.requires.stack_room c.requires.for_all_le_form.4 c.requires.i_value c.loop-p-test.true c.below-turn.ensures c.in-Value.is c.truth-t.ensures c.if-t-gt1.true

pub bind::seek-returns-then-t-form : goal.bind::seek-returns-then-t-form
bind::seek-returns-then-t-form t c = seek_ends _ _ c.loop-p.invariant c.requires.stack_room c.requires.for_all_le_form.4 c.requires.i_value c.loop-p-test.true c.below-turn.ensures c.in-Value.is c.truth-t.ensures c.requires.for_all_le_form.0 c.requires.for_all_le_form.1 c.if-t-gt1.false c.if-t-form.true c.below-turn.auto.stack c.push.ensures

pub bind::seek-loop-p-smaller : goal.bind::seek-loop-p-smaller
bind::seek-loop-p-smaller t c = omega (arith, c.skip-p.ensures.up c.loop-p-test.true, c.skip-p.ensures.within, c.loop-p-test.true)

pub bind::seek-loop-p-preserved : goal.bind::seek-loop-p-preserved
bind::seek-loop-p-preserved t c = seek_again _ _ c.loop-p.invariant c.requires.stack_room c.requires.for_all_le_form.4 c.requires.i_value c.loop-p-test.true c.below-turn.ensures c.in-Value.is c.truth-t.ensures c.requires.for_all_le_form.0 c.requires.for_all_le_form.1 c.if-t-gt1.false c.if-t-form.false c.below-turn.auto.stack c.skip-p.ensures

pub bind::seek-returns-then-blank-gt0 : goal.bind::seek-returns-then-blank-gt0
bind::seek-returns-then-blank-gt0 t c = search seek_blank

pub bind::seek-returns : goal.bind::seek-returns
bind::seek-returns t c = search seek_none

pub walk::unary-of_value-value-requires : goal.walk::unary-of_value-value-requires
walk::unary-of_value-value-requires t c = omega (arith, bounds c.below-first.ensures.small c.in-Value.is, c.requires, c.below-first.auto)

pub walk::unary-returns-in-Value : goal.walk::unary-returns-in-Value
walk::unary-returns-in-Value t c = search unary_value

pub walk::unary-returns-in-Undef : goal.walk::unary-returns-in-Undef
walk::unary-returns-in-Undef t c = search unary_undefined

pub walk::unary-returns-in-Stuck : goal.walk::unary-returns-in-Stuck
walk::unary-returns-in-Stuck t c = search unary_stuck

pub walk::unary-returns-in-Stop : goal.walk::unary-returns-in-Stop
walk::unary-returns-in-Stop t c = search unary_stop

pub walk::word-returns : goal.walk::word-returns
walk::word-returns t c = search node_packed
