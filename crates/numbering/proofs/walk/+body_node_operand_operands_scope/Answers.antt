use native.Mathlib.Omega.{arith}
use borrow.Author.Rules.{rules}
use Rattle.numbering.proofs.Findings.{body_refused, body_passed, body_found, node_found, operand_late, operand_found, left_all, left_next, left_done, scope_called, scope_bound, scope_none}
use mathlib.Core.Path.{refl}
use Rattle.numbering.proofs.walk.+body_node_operand_operands_scope.Goals as goal

pub body-returns-in_default : goal.body-returns-in_default
body-returns-in_default t c = body_refused _ _ _ _ _ _ _ _ _ c.source_type.ensures.0 c.in_default.is

pub body-operand-requires : goal.body-operand-requires
body-operand-requires t c = omega (arith, c, c.source_type, c.body_operand-k)

pub body-returns-then-enters : goal.body-returns-then-enters
body-returns-then-enters t c = body_found _ _ _ _ _ _ _ _ _ c.source_type.ensures.0 c.in-Ok.is c.enters.ensures _ c.if-enters.true c.inner_env-inner.ensures c.body_operand-k.ensures c.operand.ensures

pub body-returns : goal.body-returns
body-returns t c = body_passed _ _ _ _ _ _ _ _ _ c.source_type.ensures.0 c.in-Ok.is c.enters.ensures c.if-enters.false

pub node-returns : goal.node-returns
node-returns t c = (node_found _ _ _ _ _ _ _ _ c.node_word-form.ensures c.operand_count-count.ensures c.operands-outer.ensures c.scope-inner.ensures c.own.ensures.0, search rules)

pub operand-returns-then-n-a : goal.operand-returns-then-n-a
operand-returns-then-n-a t c = operand_late _ _ _ _ _ _ _ _ _ c.node_word.ensures c.wide-a.ensures c.if-n-a.true

pub operand-returns : goal.operand-returns
operand-returns t c = operand_found _ _ _ _ _ _ _ _ _ c.node_word.ensures c.wide-a.ensures c.if-n-a.false c.node.ensures.0

pub operands-loop-i-init : goal.operands-loop-i-init
operands-loop-i-init t c = (refl, left_all _ _ _ _ _ _ _ _ _)

pub operands-loop-i-preserved : goal.operands-loop-i-preserved
operands-loop-i-preserved t c = search left_next

pub operands-returns : goal.operands-returns
operands-returns t c = left_done _ _ _ _ _ _ _ c.loop-i.invariant.1 c.loop-i-test.false

pub scope-returns-then-form-eq-CALL : goal.scope-returns-then-form-eq-CALL
scope-returns-then-form-eq-CALL t c = scope_called _ _ _ _ _ _ _ _ _ _ c.requires.form_value c.if-form-eq-CALL.true c.wide.ensures c.lower.ensures

pub scope-returns-then-binds : goal.scope-returns-then-binds
scope-returns-then-binds t c = scope_bound _ _ _ _ _ _ _ _ _ c.if-form-eq-CALL.false c.binds.ensures c.if-binds.true c.body.ensures

pub scope-returns : goal.scope-returns
scope-returns t c = scope_none _ _ _ _ _ _ _ _ _ c.if-form-eq-CALL.false c.binds.ensures c.if-binds.false
