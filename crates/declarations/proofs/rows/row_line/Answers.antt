-- `row_line` meets its contract: one law for each refusal, and the row put into its tables.
use borrow.Author.Rules.{rules}
use mathlib.Core.Path.{◌≡◌, sym, ap, ◌∙◌}
use Rattle.std.specs.Prelude.{Err}
use Rattle.memory.specs.Refusals.{refusal_of}
use Rattle.sheet.specs.Spelling.{read_type}
use Rattle.tables.proofs.LineFields.{num_cut, is_read, not_read}
use Rattle.declarations.proofs.TakenLaws.{unspelled, row_plain, spelled, misread}
use Rattle.types.proofs.Within.{read_is}
use Rattle.declarations.proofs.RowFields.{row_count, row_number, row_class, row_name, row_type_lem, row_spelled, row_exact}
use Rattle.declarations.proofs.RowLaws.{are_low, row_over, row_over_type}
use Rattle.declarations.proofs.rows.row_line.Goals as goal

pub returns-then-f-ne5 : goal.returns-then-f-ne5
returns-then-f-ne5 c = search (unspelled, row_count)

pub returns-in_err-n : goal.returns-in_err-n
returns-in_err-n c =
    let e : c.from_residual.result ≡ Err c.in_err-n.field-0.0 = search rules in
    let x = not_read c.number.ensures c.in_err-n.ensures.value in
    rw (e ∙ ap Err x.1) (λ w1 k. unspelled c.args.st k c.args.w0.now w1 c.args.line.now (row_number c.requires.0 c.if-f-ne5.false c.field.ensures x.0))

pub returns-in_err-c : goal.returns-in_err-c
returns-in_err-c c =
    let e : c.from_residual-in_err-c.result ≡ Err c.in_err-c.field-0.0 = search rules in
    let x = not_read c.number-2.ensures c.in_err-c.ensures.value in
    rw (e ∙ ap Err x.1) (λ w1 k. unspelled c.args.st k c.args.w0.now w1 c.args.line.now
    (row_class c.requires.0 c.if-f-ne5.false c.field.ensures c.field-2.ensures (is_read c.number.ensures c.in_ok-n.ensures.value) x.0))

pub returns-in_err-name : goal.returns-in_err-name
returns-in_err-name c =
    let e : c.from_residual-in_err-name.result ≡ Err c.in_err-name.field-0.0 = search rules in
    let x = not_read c.number-3.ensures c.in_err-name.ensures.value in
    rw (e ∙ ap Err x.1) (λ w1 k. unspelled c.args.st k c.args.w0.now w1 c.args.line.now
    (row_name c.requires.0 c.if-f-ne5.false c.field.ensures c.field-2.ensures (is_read c.number.ensures c.in_ok-n.ensures.value) c.field-3.ensures (is_read c.number-2.ensures c.in_ok-c.ensures.value) x.0))

pub returns-in_err-t : goal.returns-in_err-t
returns-in_err-t c =
    let e : c.from_residual-in_err-t.result ≡ Err (refusal_of c.in_err-t.field-0.0) = search rules in
    let n = is_read c.number.ensures c.in_ok-n.ensures.value in
    let d = is_read c.number-2.ensures c.in_ok-c.ensures.value in
    let m = is_read c.number-3.ensures c.in_ok-name.ensures.value in
    rw e (λ w1 k. misread _ c.read_type.ensures c.in_err-t.was (row_plain _ _ _)
    (row_type_lem c.requires.0 c.if-f-ne5.false c.field.ensures c.field-2.ensures n c.field-3.ensures d c.field-4.ensures m)
    (λ t. row_spelled c.requires.0 c.if-f-ne5.false c.field.ensures c.field-2.ensures n c.field-3.ensures d c.field-4.ensures m)
    (row_over_type _ _ _))

pub returns-then-not-numbers_within : goal.returns-then-not-numbers_within
returns-then-not-numbers_within c = λ w1 k.
    let n = is_read c.number.ensures c.in_ok-n.ensures.value in
    let d = is_read c.number-2.ensures c.in_ok-c.ensures.value in
    let m = is_read c.number-3.ensures c.in_ok-name.ensures.value in
    let t = read_is (read_type c.field-4.result.now) c.read_type.ensures c.in_ok-t.t c.in_ok-t.was in
    spelled c.args.line.now (row_plain _ _ _ _)
    (row_spelled c.requires.0 c.if-f-ne5.false c.field.ensures c.field-2.ensures n c.field-3.ensures d c.field-4.ensures m t.0)
    (row_over c.args.st k c.args.w0.now w1 _ _ _ _ (num_cut _ n) (num_cut _ d) (num_cut _ m) (sym c.numbers_within.ensures ∙ search rules))

pub put_row-requires : goal.put_row-requires
put_row-requires c = (c.requires.1, c.requires.2, sym c.numbers_within.ensures ∙ search rules, (read_is (read_type c.field-4.result.now) c.read_type.ensures c.in_ok-t.t c.in_ok-t.was).1)

pub returns : goal.returns
returns c = λ w1 k.
    let n = is_read c.number.ensures c.in_ok-n.ensures.value in
    let d = is_read c.number-2.ensures c.in_ok-c.ensures.value in
    let m = is_read c.number-3.ensures c.in_ok-name.ensures.value in
    let t = read_is (read_type c.field-4.result.now) c.read_type.ensures c.in_ok-t.t c.in_ok-t.was in
    let low = are_low c.in_ok-n.n c.in_ok-c.c c.in_ok-name.name (sym c.numbers_within.ensures ∙ search rules) in
    spelled c.args.line.now (row_plain _ _ _ _)
    (row_exact c.requires.0 c.if-f-ne5.false c.field.ensures c.field-2.ensures n c.field-3.ensures d c.field-4.ensures m t.0 low.number low.class low.named)
    (c.put_row.ensures w1 k)
