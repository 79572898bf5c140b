-- `resolved` meets its contract.
use native.Mathlib.Omega.{arith}
use Rattle.trees.proofs.CallLaws.{resolved_none, resolved_call, called_low}
use Rattle.trees.proofs.calls.resolved.Goals as goal

pub returns-then-not-is_call : goal.returns-then-not-is_call
returns-then-not-is_call c = search resolved_none

pub overflow_add-result : goal.overflow_add-result
overflow_add-result c = omega (arith, called_low _ _ c.is_call.ensures c.if-not-is_call.false c.requires.2)

pub offset_bounds-w0-n : goal.offset_bounds-w0-n
offset_bounds-w0-n c = omega (arith, called_low _ _ c.is_call.ensures c.if-not-is_call.false c.requires.2)

pub bounds-w0-n : goal.bounds-w0-n
bounds-w0-n c = omega (arith, called_low _ _ c.is_call.ensures c.if-not-is_call.false c.requires.2)

pub overflow_add-result-2 : goal.overflow_add-result-2
overflow_add-result-2 c = omega (arith, called_low _ _ c.is_call.ensures c.if-not-is_call.false c.requires.2)

pub offset_bounds-w0-n-2 : goal.offset_bounds-w0-n-2
offset_bounds-w0-n-2 c = omega (arith, called_low _ _ c.is_call.ensures c.if-not-is_call.false c.requires.2)

pub bounds-w0-n-2 : goal.bounds-w0-n-2
bounds-w0-n-2 c = omega (arith, called_low _ _ c.is_call.ensures c.if-not-is_call.false c.requires.2)

pub overflow_add-result-3 : goal.overflow_add-result-3
overflow_add-result-3 c = omega (arith, called_low _ _ c.is_call.ensures c.if-not-is_call.false c.requires.2)

pub offset_bounds-w0-n-3 : goal.offset_bounds-w0-n-3
offset_bounds-w0-n-3 c = omega (arith, called_low _ _ c.is_call.ensures c.if-not-is_call.false c.requires.2)

pub bounds-w0-n-3 : goal.bounds-w0-n-3
bounds-w0-n-3 c = omega (arith, called_low _ _ c.is_call.ensures c.if-not-is_call.false c.requires.2)

pub returns : goal.returns
returns c = search resolved_call
