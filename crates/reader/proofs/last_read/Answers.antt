-- `last_read` meets its contract: the end of an open rule and the text's last part, by proofs/Laws.antt. Assumes nothing.
use borrow.Author.Rules.{rules}
use mathlib.Core.Path.{◌≡◌, ap, sym, ◌∙◌}
use Rattle.std.specs.Prelude.{Err}
use native.Mathlib.Omega.{arith}
use borrow.Author.Tests.{eqb-true, eqb-false}
use lib.ListN.{length}
use Rattle.sheet.specs.Text.{fields_of}
use Rattle.text.specs.Words.{byte_kind, only_byte}
use Rattle.text.proofs.PartLaws.{counted_some}
use Rattle.reader.proofs.Laws.{in_body_lem, not_body, rule_room, placed_ok, body_last, stop_last, sheet_last, left_last}
use Rattle.reader.proofs.last_read.Goals as goal

pub field-requires : goal.field-requires
field-requires c = (c.cut-f.ensures, counted_some c.cut-f.ensures, omega arith)

pub returns-then-in_body : goal.returns-then-in_body
returns-then-in_body c = rw c.at.ensures (body_last c.args.st c.args.k c.args.part.now (in_body_lem (fields_of c.args.part.now) c.byte_kind-kind.result (c.byte_kind-kind.ensures ∙ ap byte_kind (c.letter.ensures ∙ ap only_byte c.field.ensures)) c.in_body.ensures c.if-in_body.true))

pub end_rule-requires : goal.end_rule-requires
end_rule-requires c = search rule_room

pub returns-in_err-next : goal.returns-in_err-next
returns-in_err-next c =
    let e : c.from_residual.result ≡ Err c.in_err-next.field-0.0 = search rules in
    rw e (stop_last c.args.st c.args.k c.args.part.now (not_body (fields_of c.args.part.now) c.byte_kind-kind.result (c.byte_kind-kind.ensures ∙ ap byte_kind (c.letter.ensures ∙ ap only_byte c.field.ensures)) c.in_body.ensures c.if-in_body.false) c.end_rule.ensures (sym c.placed.ensures ∙ c.in_err-next.was))

pub returns-then-is_empty : goal.returns-then-is_empty
returns-then-is_empty c =
    let e = placed_ok c.args.k c.end_rule.result (sym c.placed.ensures ∙ c.in_ok-next.was) in
    sheet_last c.args.st c.args.k c.args.part.now (not_body (fields_of c.args.part.now) c.byte_kind-kind.result (c.byte_kind-kind.ensures ∙ ap byte_kind (c.letter.ensures ∙ ap only_byte c.field.ensures)) c.in_body.ensures c.if-in_body.false) (rw e at c.end_rule.ensures) (eqb-true (length c.args.part.now) 0 (sym c.is_empty.ensures ∙ c.if-is_empty.true))

pub returns-else-is_empty : goal.returns-else-is_empty
returns-else-is_empty c =
    let e = placed_ok c.args.k c.end_rule.result (sym c.placed.ensures ∙ c.in_ok-next.was) in
    rw c.at-else-is_empty.ensures (left_last c.args.st c.args.k c.args.part.now (not_body (fields_of c.args.part.now) c.byte_kind-kind.result (c.byte_kind-kind.ensures ∙ ap byte_kind (c.letter.ensures ∙ ap only_byte c.field.ensures)) c.in_body.ensures c.if-in_body.false) (rw e at c.end_rule.ensures) (eqb-false (length c.args.part.now) 0 (sym c.is_empty.ensures ∙ c.if-is_empty.false)))
