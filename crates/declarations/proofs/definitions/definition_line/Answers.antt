-- `definition_line` meets its contract: one law for each refusal, and the definition opened.
use borrow.Author.Rules.{rules}
use mathlib.Core.Path.{◌≡◌, ap, ◌∙◌}
use Rattle.std.specs.Prelude.{Err}
use Rattle.memory.specs.Refusals.{refusal_of}
use Rattle.sheet.specs.Spelling.{read_type}
use Rattle.types.proofs.Within.{read_is}
use Rattle.tables.proofs.LineFields.{num_cut, is_read, not_read}
use Rattle.declarations.proofs.TakenLaws.{unspelled, definition_plain, spelled, misread}
use Rattle.declarations.proofs.DefinitionFields.{definition_count, definition_number, definition_class, definition_type, definition_spelled}
use Rattle.declarations.proofs.DefinitionLaws.{definition_over_type}
use Rattle.declarations.proofs.definitions.definition_line.Goals as goal

pub returns-then-f-ne4 : goal.returns-then-f-ne4
returns-then-f-ne4 c = search (unspelled, definition_count)

pub returns-in_err-n : goal.returns-in_err-n
returns-in_err-n c =
    let e : c.from_residual.result ≡ Err c.in_err-n.field-0.0 = search rules in
    let d = not_read c.number.ensures c.in_err-n.ensures.value in
    rw (e ∙ ap Err d.1) (λ w0 w1 k. unspelled c.args.st k w0 w1 c.args.line.now (definition_number c.requires.0 c.if-f-ne4.false c.field.ensures d.0))

pub returns-in_err-c : goal.returns-in_err-c
returns-in_err-c c =
    let e : c.from_residual-in_err-c.result ≡ Err c.in_err-c.field-0.0 = search rules in
    let d = not_read c.number-2.ensures c.in_err-c.ensures.value in
    rw (e ∙ ap Err d.1) (λ w0 w1 k. unspelled c.args.st k w0 w1 c.args.line.now
    (definition_class c.requires.0 c.if-f-ne4.false c.field.ensures c.field-2.ensures (is_read c.number.ensures c.in_ok-n.ensures.value) d.0))

pub returns-in_err-t : goal.returns-in_err-t
returns-in_err-t c =
    let e : c.from_residual-in_err-t.result ≡ Err (refusal_of c.in_err-t.field-0.0) = search rules in
    let n = is_read c.number.ensures c.in_ok-n.ensures.value in
    let d = is_read c.number-2.ensures c.in_ok-c.ensures.value in
    rw e (λ w0 w1 k. misread _ c.read_type.ensures c.in_err-t.was (definition_plain _ _)
    (definition_type c.requires.0 c.if-f-ne4.false c.field.ensures c.field-2.ensures n c.field-3.ensures d)
    (λ t. definition_spelled c.requires.0 c.if-f-ne4.false c.field.ensures c.field-2.ensures n c.field-3.ensures d)
    (definition_over_type _ _))

pub open_definition-requires : goal.open_definition-requires
open_definition-requires c = (c.requires.1, (read_is (read_type c.field-3.result.now) c.read_type.ensures c.in_ok-t.t c.in_ok-t.was).1)

pub returns : goal.returns
returns c = λ w0 w1 k.
    let n = is_read c.number.ensures c.in_ok-n.ensures.value in
    let d = is_read c.number-2.ensures c.in_ok-c.ensures.value in
    let t = read_is (read_type c.field-3.result.now) c.read_type.ensures c.in_ok-t.t c.in_ok-t.was in
    spelled c.args.line.now (definition_plain _ _ _)
    (definition_spelled c.requires.0 c.if-f-ne4.false c.field.ensures c.field-2.ensures n c.field-3.ensures d t.0)
    (c.open_definition.ensures.is w0 w1 k _ _ (num_cut _ n) (num_cut _ d))
