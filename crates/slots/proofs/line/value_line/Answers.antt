-- `slots::line::value_line` meets its contract. Assumes nothing.
use borrow.Author.Rules.{rules}
use mathlib.Core.Path.{◌≡◌, ap, ◌∙◌}
use native.Mathlib.Omega.{arith}
use Rattle.std.specs.Prelude.{Err}
use Rattle.memory.specs.Refusals.{refusal_of}
use Rattle.tables.proofs.Tables.{kept_refl}
use Rattle.tables.proofs.LineFields.{is_read, not_read}
use Rattle.slots.proofs.LineLaws.{unspelled, fields_count, fields_object, fields_row, fields_value, fields_all, object_cut, row_cut, line_misread, line_put, read_sizes}
use Rattle.slots.proofs.line.value_line.Goals as goal

pub returns-then-f-ne4 : goal.returns-then-f-ne4
returns-then-f-ne4 c = search (unspelled, kept_refl, fields_count)

pub returns-in_err-o : goal.returns-in_err-o
returns-in_err-o c =
    let e : c.from_residual.result ≡ Err c.in_err-o.field-0.0 = search rules in
    let x = not_read c.number.ensures c.in_err-o.ensures.value in
    rw (e ∙ ap Err x.1) (λ w1 k. unspelled w1 (kept_refl _) (fields_object c.requires.0 c.requires.1 (omega arith) c.field.ensures x.0))

pub returns-in_err-a : goal.returns-in_err-a
returns-in_err-a c =
    let e : c.from_residual-in_err-a.result ≡ Err c.in_err-a.field-0.0 = search rules in
    let x = not_read c.number-2.ensures c.in_err-a.ensures.value in
    rw (e ∙ ap Err x.1) (λ w1 k. unspelled w1 (kept_refl _)
    (fields_row c.requires.0 c.requires.1 (omega arith) c.field.ensures (is_read c.number.ensures c.in_ok-o.ensures.value) c.field-2.ensures x.0))

pub returns-in_err-size : goal.returns-in_err-size
returns-in_err-size c =
    let e : c.from_residual-in_err-size.result ≡ Err (refusal_of c.in_err-size.field-0.0) = search rules in
    let o = is_read c.number.ensures c.in_ok-o.ensures.value in
    let a = is_read c.number-2.ensures c.in_ok-a.ensures.value in
    rw e (λ w1 k. line_misread w1 _ _
    (λ v. fields_all c.requires.0 c.requires.1 (omega arith) c.field.ensures o c.field-2.ensures a c.field-3.ensures)
    c.wide.ensures c.read_into.auto.w0 c.requires.2 c.requires.3
    (fields_value c.requires.0 c.requires.1 (omega arith) c.field.ensures o c.field-2.ensures a c.field-3.ensures) c.in_err-size.ensures)

pub put_slot-requires : goal.put_slot-requires
put_slot-requires c = let d = read_sizes c.wide.ensures c.read_into.auto.w0 c.requires.2 c.requires.3 c.in_ok-size.ensures in (omega (arith, c.read_into.auto.w0), c.requires.3, d.0, d.1)

pub returns : goal.returns
returns c = λ w1 k.
    let o = is_read c.number.ensures c.in_ok-o.ensures.value in
    let a = is_read c.number-2.ensures c.in_ok-a.ensures.value in
    line_put w1 _ _
    (λ v. fields_all c.requires.0 c.requires.1 (omega arith) c.field.ensures o c.field-2.ensures a c.field-3.ensures)
    c.wide.ensures c.read_into.auto.w0 c.requires.2 c.requires.3 c.in_ok-size.ensures (c.put_slot.ensures w1 k)
    (object_cut c.requires.0 c.requires.1 (omega arith) c.field.ensures o c.field-2.ensures a c.field-3.ensures)
    (row_cut c.requires.0 c.requires.1 (omega arith) c.field.ensures o c.field-2.ensures a c.field-3.ensures)
