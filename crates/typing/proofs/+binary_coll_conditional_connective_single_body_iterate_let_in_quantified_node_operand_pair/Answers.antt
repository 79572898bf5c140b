use borrow.Author.Rules.{rules}
use Rattle.ocl.specs.Typing.{binary_typing, conditional_typing, both_below, connective_typing, let_typing, leaf_typing, quantified_typing}
use mathlib.Core.Path.{◌≡◌, refl, sym, ◌∙◌, ap}
use Rattle.std.specs.Prelude.{Err}
use Rattle.judgements.proofs.Composition.{early, after, done, as_form}
use Rattle.typing.proofs.NodeTypings.{in_env, iter_rest_lem, iter_source, iter_start, iter_body, undef_done, leaf_node, single_node, binary_node, connective_node, quantified_node, assemble_node, conditional_node, let_node, iterate_node, none_node, from_13, from_33, operand_node, late_node, no_source, on_source}
use Rattle.judgements.proofs.FormTypes.{below_yes, below_no}
use Rattle.typing.specs.Tables.{body_at, single_at}
use mathlib.Core.Option.{some}
use native.Mathlib.Omega.{arith}
use Rattle.types.specs.Flat.{joined_type, ty_of}
use Rattle.typing.proofs.Members.{assemble_over, left_all, left_refused, left_next, left_done}
use Rattle.ocl.specs.Types.{Ty}
use Rattle.types.specs.Word.{type_in}
use mathlib.Core.Logic.{inl, inr}
use Rattle.typing.proofs.Pairs.{two_first, two_second, two_done}
use Rattle.typing.proofs.+binary_coll_conditional_connective_single_body_iterate_let_in_quantified_node_operand_pair.Goals as goal
use Rattle.typing.proofs.+binary_coll_conditional_connective_single_body_iterate_let_in_quantified_node_operand_pair.Goals.{walk::node-in-37-1, walk::node-in_default+else-form-lt7+else-form-lt13+then-form-lt23, walk::node-in-30-1, walk::node-in_default+else-form-lt7+then-form-lt13, walk::node-in_default+else-form-lt7+else-form-lt13+else-form-lt23+else-form-lt25+else-form-lt27+else-form-lt30+then-form-lt35}
use Rattle.typing.proofs.+binary_coll_conditional_connective_single_body_iterate_let_in_quantified_node_operand_pair.Goals.{scope::iterate-then-outer_code-eq0-via-then-outer_code-eq0, scope::iterate-then-outer_code-eq0-via-else-outer_code-eq0+then-not-subtype}

pub apply::binary-returns : goal.apply::binary-returns
unfolding binary_typing
apply::binary-returns t c = λ m h. (c.pair.ensures m h).goes c.in_ok-t.was _ (c.binary_type.ensures m h.classes.parent)

pub apply::binary-returns-in_err-t : goal.apply::binary-returns-in_err-t
unfolding binary_typing
apply::binary-returns-in_err-t t c =
    let e : c.from_residual.result ≡ Err c.in_err-t.field-0.0 = search rules in
    λ m h. rw e ((c.pair.ensures m h).ends c.in_err-t.was _)

pub scope::body-returns-in_err-b : goal.scope::body-returns-in_err-b
unfolding body_at
scope::body-returns-in_err-b t c =
    let e : c.from_residual.result ≡ Err c.in_err-b.field-0.0 = search rules in
    λ m h. rw e (early _ (in_env _ _ _ _ _ _ c.bind-inner.ensures c.variable.ensures.1 refl (c.operand.ensures m h)) c.in_err-b.was)

pub scope::body-returns-then-subtype : goal.scope::body-returns-then-subtype
unfolding body_at
scope::body-returns-then-subtype t c = λ m h. after _ (in_env _ _ _ _ _ _ c.bind-inner.ensures c.variable.ensures.1 refl (c.operand.ensures m h)) c.in_ok-b.was (done (below_yes m _ h.classes.parent _ _ _ (sym c.if-subtype.true ∙ c.subtype.ensures)))

pub scope::body-returns : goal.scope::body-returns
unfolding body_at
scope::body-returns t c = λ m h. rw c.at.ensures (after _ (in_env _ _ _ _ _ _ c.bind-inner.ensures c.variable.ensures.1 refl (c.operand.ensures m h)) c.in_ok-b.was (done (below_no m _ h.classes.parent _ _ _ (sym c.if-subtype.false ∙ c.subtype.ensures))))

pub apply::coll-returns-then-count-gt4 : goal.apply::coll-returns-then-count-gt4
apply::coll-returns-then-count-gt4 t c = λ m h. assemble_over m _ _ _ _ _ (c.wide-count.ensures ∙ c.node_word.ensures) c.if-count-gt4.true c.plain.ensures

pub apply::coll-loop-i-init : goal.apply::coll-loop-i-init
unfolding joined_type
apply::coll-loop-i-init t c = (refl, λ m h. left_all m _ _ _ _ _ (c.wide-count.ensures ∙ c.node_word.ensures) c.if-count-gt4.false c.requires.set_le_form.0 c.requires.set_le_form.1 (ap some c.plain-2.ensures))

pub apply::coll-returns-in_err-t : goal.apply::coll-returns-in_err-t
apply::coll-returns-in_err-t t c =
    let e : c.from_residual.result ≡ Err c.in_err-t.field-0.0 = search rules in
    λ m h. rw e (left_refused m _ _ _ _ _ _ _ (c.loop-i.invariant.1 m h) c.loop-i-test.true (c.operand.ensures m h) c.in_err-t.was)

pub apply::coll-loop-i-preserved : goal.apply::coll-loop-i-preserved
apply::coll-loop-i-preserved t c = (omega (arith, c.operand, c.loop-i.invariant.0), λ m h. left_next m _ _ _ _ _ _ _ (c.loop-i.invariant.1 m h) _ h.classes.parent c.loop-i-test.true (c.operand.ensures m h) c.in_ok-t.was c.join_more-common.ensures)

pub apply::coll-returns : goal.apply::coll-returns
apply::coll-returns t c = λ m h. left_done m _ _ _ _ _ _ _ (c.loop-i.invariant.1 m h) c.loop-i-test.false c.around_common.ensures

pub apply::conditional-returns-in_err-u : goal.apply::conditional-returns-in_err-u
unfolding conditional_typing
apply::conditional-returns-in_err-u t c =
    let e : c.from_residual-in_err-u.result ≡ Err c.in_err-u.field-0.0 = search rules in
    λ m h. rw e ((c.pair.ensures m h).goes c.in_ok-c.was _ (early _ (c.operand.ensures m h) c.in_err-u.was))

pub apply::conditional-returns : goal.apply::conditional-returns
unfolding conditional_typing
apply::conditional-returns t c = λ m h. (c.pair.ensures m h).goes c.in_ok-c.was _ (after _ (c.operand.ensures m h) c.in_ok-u.was (done (c.conditional_type.ensures m h.classes.parent)))

pub apply::conditional-returns-in_err-c : goal.apply::conditional-returns-in_err-c
unfolding conditional_typing
apply::conditional-returns-in_err-c t c =
    let e : c.from_residual.result ≡ Err c.in_err-c.field-0.0 = search rules in
    λ m h. rw e ((c.pair.ensures m h).ends c.in_err-c.was _)

pub apply::connective-returns : goal.apply::connective-returns
unfolding connective_typing
apply::connective-returns t c = λ m h. (c.pair.ensures m h).goes c.in_ok-t.was _ (done (c.both_below.ensures m h.classes.parent ∙ ap (λ (w : Ty). both_below m c.args.n w w (ty_of c.in_ok-t.t) (ty_of c.in_ok-t.u)) c.plain-bool.ensures))

pub apply::connective-returns-in_err-t : goal.apply::connective-returns-in_err-t
unfolding connective_typing
apply::connective-returns-in_err-t t c =
    let e : c.from_residual.result ≡ Err c.in_err-t.field-0.0 = search rules in
    λ m h. rw e ((c.pair.ensures m h).ends c.in_err-t.was _)

pub scope::iterate-returns-then-outer_code-eq0 : goal.scope::iterate-returns-then-outer_code-eq0
scope::iterate-returns-then-outer_code-eq0 t c =
    elim c.then-outer_code-eq0.branch [
      | scope::iterate-then-outer_code-eq0-via-then-outer_code-eq0 w ↦ (λ m h. rw c.at.ensures (iter_rest_lem m _ _ _ ((c.pair.ensures m h).goes c.in_ok-source.was _ (iter_source m _ h.classes.parent _ _ _ _ _ c.outer_code.ensures w.if-outer_code-eq0.true))))
      | scope::iterate-then-outer_code-eq0-via-else-outer_code-eq0+then-not-subtype w ↦
          (λ m h. rw c.at.ensures (iter_rest_lem m _ _ _ ((c.pair.ensures m h).goes c.in_ok-source.was _ (iter_start m _ h.classes.parent _ _ _ _ _ c.outer_code.ensures w.if-outer_code-eq0.false (c.unpack-t.ensures ∙ ap type_in c.node_word.ensures) (sym w.if-not-subtype.true ∙ w.subtype.ensures)))))
    ]

pub scope::iterate-returns : goal.scope::iterate-returns
scope::iterate-returns t c = λ m h. iter_rest_lem m _ _ _ ((c.pair.ensures m h).goes c.in_ok-source.was _ (iter_body m _ h.classes.parent _ _ _ _ _ c.outer_code.ensures c.if-outer_code-eq0.false (c.unpack-t.ensures ∙ ap type_in c.node_word.ensures) (sym c.if-not-subtype.false ∙ c.subtype.ensures) c.member_type.ensures c.variable.ensures.1 c.bind-inner.ensures (c.body.ensures m h)))

pub scope::iterate-returns-in_err-source : goal.scope::iterate-returns-in_err-source
scope::iterate-returns-in_err-source t c =
    let e : c.from_residual.result ≡ Err c.in_err-source.field-0.0 = search rules in
    λ m h. rw e (iter_rest_lem m _ _ _ ((c.pair.ensures m h).ends c.in_err-source.was _))

pub scope::let_in-returns-in_err-t : goal.scope::let_in-returns-in_err-t
unfolding let_typing
scope::let_in-returns-in_err-t t c =
    let e : c.from_residual.result ≡ Err c.in_err-t.field-0.0 = search rules in
    λ m h. rw e (early _ (c.operand.ensures m h) c.in_err-t.was)

pub scope::let_in-returns : goal.scope::let_in-returns
unfolding let_typing
scope::let_in-returns t c = λ m h. after _ (c.operand.ensures m h) c.in_ok-t.was (in_env _ _ _ _ _ _ c.bind-inner.ensures c.variable.ensures.1 refl (c.operand-2.ensures m h))

pub walk::node-binary-requires : goal.walk::node-binary-requires
walk::node-binary-requires t c =
    let l = from_13 c.node_word-form.result (elim c.in-13-to-22-1.branch [ walk::node-in-37-1 w ↦ inl (search rules) | walk::node-in_default+else-form-lt7+else-form-lt13+then-form-lt23 w ↦ inr (omega arith, omega arith) ]) in search rules

pub walk::node-returns-in-31 : goal.walk::node-returns-in-31
walk::node-returns-in-31 t c = λ m h. as_form (conditional_node m _ _ _ c.node_word-form.ensures c.in-31.is) (c.conditional.ensures m h)

pub walk::node-returns-in-32 : goal.walk::node-returns-in-32
walk::node-returns-in-32 t c = λ m h. as_form (let_node m _ _ _ c.node_word-form.ensures c.in-32.is) (c.let_in.ensures m h)

pub walk::node-returns-in-35 : goal.walk::node-returns-in-35
walk::node-returns-in-35 t c = λ m h. as_form (iterate_node m _ _ _ c.node_word-form.ensures c.in-35.is) (c.iterate.ensures m h)

pub walk::node-returns-in-0-to-6 : goal.walk::node-returns-in-0-to-6
unfolding leaf_typing
walk::node-returns-in-0-to-6 t c = λ m h. as_form (leaf_node m _ _ _ c.node_word-form.ensures (omega arith)) (done c.leaf_type.ensures)

pub walk::node-returns-in-23-to-24 : goal.walk::node-returns-in-23-to-24
walk::node-returns-in-23-to-24 t c = λ m h. as_form (connective_node m _ _ _ c.node_word-form.ensures (omega arith) (omega arith)) (c.connective.ensures m h)

pub walk::node-returns-in-25-to-26 : goal.walk::node-returns-in-25-to-26
walk::node-returns-in-25-to-26 t c = λ m h. as_form (quantified_node m _ _ _ c.node_word-form.ensures (omega arith) (omega arith)) (c.quantified.ensures m h)

pub walk::node-returns-in-27-to-29 : goal.walk::node-returns-in-27-to-29
walk::node-returns-in-27-to-29 t c = λ m h. as_form (assemble_node m _ _ _ c.node_word-form.ensures (omega arith) (omega arith)) (c.coll.ensures m h)

pub walk::node-returns-in_default : goal.walk::node-returns-in_default
walk::node-returns-in_default t c = λ m h. as_form (none_node m _ _ _ c.node_word-form.ensures (omega arith) (search rules) (search rules) (search rules)) (undef_done _ _ c.plain.ensures)

pub walk::node-returns-in-13-to-22 : goal.walk::node-returns-in-13-to-22
walk::node-returns-in-13-to-22 t c =
    λ m h. as_form (binary_node m _ _ _ c.node_word-form.ensures (elim c.in-13-to-22-1.branch [ walk::node-in-37-1 w ↦ inl (search rules) | walk::node-in_default+else-form-lt7+else-form-lt13+then-form-lt23 w ↦ inr (omega arith, omega arith) ])) (c.binary.ensures m h)

pub walk::node-returns-in-7-to-12 : goal.walk::node-returns-in-7-to-12
walk::node-returns-in-7-to-12 t c =
    λ m h. as_form (single_node m _ _ _ c.node_word-form.ensures (elim c.in-7-to-12-1.branch [
      | walk::node-in-30-1 w ↦ inl (search rules)
      | walk::node-in_default+else-form-lt7+then-form-lt13 w ↦ inr (inl (omega arith, omega arith))
      | walk::node-in_default+else-form-lt7+else-form-lt13+else-form-lt23+else-form-lt25+else-form-lt27+else-form-lt30+then-form-lt35 w ↦ inr (inr (from_33 _ (omega arith) (search rules) (search rules) (search rules), omega arith))
    ])) (c.single.ensures m h)

pub walk::operand-returns-then-n-a : goal.walk::operand-returns-then-n-a
walk::operand-returns-then-n-a t c = λ m h. as_form (late_node m _ _ _ _ (c.wide-a.ensures ∙ c.node_word.ensures) c.if-n-a.true) (undef_done _ _ c.plain.ensures)

pub walk::operand-returns : goal.walk::operand-returns
walk::operand-returns t c = λ m h. as_form (operand_node m _ _ _ _ (c.wide-a.ensures ∙ c.node_word.ensures) c.if-n-a.false) (c.node.ensures m h)

pub walk::pair-returns-in_err-t : goal.walk::pair-returns-in_err-t
walk::pair-returns-in_err-t t c =
    let e : c.from_residual.result ≡ Err c.in_err-t.field-0.0 = search rules in
    λ m h. rw e (two_first (c.operand.ensures m h) c.in_err-t.was)

pub walk::pair-returns-in_err-u : goal.walk::pair-returns-in_err-u
walk::pair-returns-in_err-u t c =
    let e : c.from_residual-in_err-u.result ≡ Err c.in_err-u.field-0.0 = search rules in
    λ m h. rw e (two_second (c.operand.ensures m h) c.in_ok-t.was (c.operand-2.ensures m h) c.in_err-u.was)

pub walk::pair-returns : goal.walk::pair-returns
walk::pair-returns t c = λ m h. two_done (c.operand.ensures m h) c.in_ok-t.was (c.operand-2.ensures m h) c.in_ok-u.was

pub scope::quantified-returns-in_err-s : goal.scope::quantified-returns-in_err-s
unfolding quantified_typing
scope::quantified-returns-in_err-s t c =
    let e : c.from_residual.result ≡ Err c.in_err-s.field-0.0 = search rules in
    λ m h. rw e (early _ (c.operand.ensures m h) c.in_err-s.was)

pub scope::quantified-returns-then-outer_code-eq0 : goal.scope::quantified-returns-then-outer_code-eq0
unfolding quantified_typing
scope::quantified-returns-then-outer_code-eq0 t c = λ m h. rw c.at.ensures (after _ (c.operand.ensures m h) c.in_ok-s.was (no_source _ _ c.outer_code.ensures _ c.if-outer_code-eq0.true))

pub scope::quantified-returns-in_err-b : goal.scope::quantified-returns-in_err-b
unfolding quantified_typing
scope::quantified-returns-in_err-b t c =
    let e : c.from_residual-in_err-b.result ≡ Err c.in_err-b.field-0.0 = search rules in
    λ m h. rw e (after _ (c.operand.ensures m h) c.in_ok-s.was (on_source _ _ c.outer_code.ensures _ c.if-outer_code-eq0.false (early _ (in_env _ _ _ _ _ _ c.bind-inner.ensures c.variable.ensures.1 c.member_type.ensures (c.operand-2.ensures m h)) c.in_err-b.was)))

pub scope::quantified-shape_of-marks : goal.scope::quantified-shape_of-marks
scope::quantified-shape_of-marks t c = omega (arith, c.operand, c.operand-2, c)

pub scope::quantified-returns : goal.scope::quantified-returns
unfolding quantified_typing
scope::quantified-returns t c = λ m h. after _ (c.operand.ensures m h) c.in_ok-s.was (on_source _ _ c.outer_code.ensures _ c.if-outer_code-eq0.false (after _ (in_env _ _ _ _ _ _ c.bind-inner.ensures c.variable.ensures.1 c.member_type.ensures (c.operand-2.ensures m h)) c.in_ok-b.was (done (c.condition.ensures m h.classes.parent))))

pub apply::single-returns-in_err-t : goal.apply::single-returns-in_err-t
unfolding single_at
apply::single-returns-in_err-t t c =
    let e : c.from_residual.result ≡ Err c.in_err-t.field-0.0 = search rules in
    λ m h. rw e (early _ (c.operand.ensures m h) c.in_err-t.was)

pub apply::single-returns : goal.apply::single-returns
unfolding single_at
apply::single-returns t c = λ m h. after _ (c.operand.ensures m h) c.in_ok-t.was (c.single_type.ensures m h)
