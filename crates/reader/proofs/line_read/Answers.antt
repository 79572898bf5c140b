-- `line_read` meets its contract: the end of an open rule and the line, put together by proofs/Laws.antt. Assumes nothing.
use borrow.Author.Rules.{rules}
use mathlib.Core.Path.{◌≡◌, sym, ap, ◌∙◌}
use Rattle.std.specs.Prelude.{Err}
use native.Mathlib.Omega.{arith}
use Prim.Native.Nat.{◌+◌}
use Rattle.sheet.specs.Text.{fields_of}
use Rattle.text.specs.Words.{byte_kind, only_byte}
use Rattle.text.proofs.PartLaws.{counted_some}
use Rattle.reader.proofs.Laws.{in_body_lem, not_body, rule_room, placed_ok, ended_fine, body_whole, stop_whole, next_whole}
use Rattle.reader.proofs.line_read.Goals as goal

pub field-requires : goal.field-requires
field-requires c = (c.cut-f.ensures, counted_some c.cut-f.ensures, omega arith)

pub body_line-step-requires : goal.body_line-step-requires
body_line-step-requires c = (c.cut-f.ensures, (c.byte_kind-kind.ensures ∙ ap byte_kind (c.letter.ensures ∙ ap only_byte c.field.ensures)), sym c.in_body.ensures ∙ c.if-in_body.true, c.requires.0, c.requires.1, c.requires.2, c.requires.3.fine)

pub returns-then-in_body : goal.returns-then-in_body
returns-then-in_body c = rw c.placed.ensures (body_whole c.args.st c.args.k c.args.line.now (in_body_lem (fields_of c.args.line.now) c.byte_kind-kind.result (c.byte_kind-kind.ensures ∙ ap byte_kind (c.letter.ensures ∙ ap only_byte c.field.ensures)) c.in_body.ensures c.if-in_body.true) c.body_line-step.ensures)

pub end_rule-requires : goal.end_rule-requires
end_rule-requires c = search rule_room

pub returns-in_err-next : goal.returns-in_err-next
returns-in_err-next c =
    let e : c.from_residual.result ≡ Err c.in_err-next.field-0.0 = search rules in
    rw e (stop_whole c.args.st c.args.k c.args.line.now _ (not_body (fields_of c.args.line.now) c.byte_kind-kind.result (c.byte_kind-kind.ensures ∙ ap byte_kind (c.letter.ensures ∙ ap only_byte c.field.ensures)) c.in_body.ensures c.if-in_body.false) c.end_rule.ensures (sym c.placed-2.ensures ∙ c.in_err-next.was))

pub other_line-requires : goal.other_line-requires
other_line-requires c = (c.cut-f.ensures, (c.byte_kind-kind.ensures ∙ ap byte_kind (c.letter.ensures ∙ ap only_byte c.field.ensures)), sym c.in_body.ensures ∙ c.if-in_body.false, omega (arith, c.requires.0, c.end_rule.ensures.kept.size), ended_fine _ (c.end_rule.ensures.is c.requires.3.sheet c.requires.3.holds) (placed_ok c.args.k c.end_rule.result (sym c.placed-2.ensures ∙ c.in_ok-next.was)))

pub overflow_add-k : goal.overflow_add-k
overflow_add-k c = omega (arith, c.requires.4)

pub returns : goal.returns
returns c =
    let e = placed_ok c.args.k c.end_rule.result (sym c.placed-2.ensures ∙ c.in_ok-next.was) in
    rw c.placed-3.ensures (next_whole c.args.st c.args.k c.args.line.now _ (not_body (fields_of c.args.line.now) c.byte_kind-kind.result (c.byte_kind-kind.ensures ∙ ap byte_kind (c.letter.ensures ∙ ap only_byte c.field.ensures)) c.in_body.ensures c.if-in_body.false) (rw e at c.end_rule.ensures) (c.other_line.ensures c.args.w1.now (c.args.k + 1)))
