-- `type_definition` meets its contract. Assumes nothing.
use mathlib.Core.Path.{◌≡◌, sym}
use Rattle.std.specs.Prelude.{Err}
use native.Mathlib.Omega.{arith}
use lib.Seq.{length-take-le}
use Rattle.typing.proofs.RuleTypings.{definition_first, definition_below, definition_over}
use borrow.Author.Rules.{rules}
use Rattle.typing.proofs.rules.type_definition.Goals as goal

pub returns-in_err-t : goal.returns-in_err-t
returns-in_err-t c =
    let e : c.from_residual.result ≡ Err c.in_err-t.field-0.0 = search rules in
    rw e (definition_first _ c.type_rule.ensures c.in_err-t.was)

pub slice_bounds-subtype-end : goal.slice_bounds-subtype-end
slice_bounds-subtype-end c = sym (length-take-le _ c.args.tables.now (omega arith))

pub returns-then-subtype : goal.returns-then-subtype
returns-then-subtype c = search (definition_below, c.in_ok-t.was)

pub returns : goal.returns
returns c = rw c.at.ensures (definition_over _ c.type_rule.ensures _ c.in_ok-t.was c.unpack-whole.ensures c.subtype.ensures c.if-subtype.false)
