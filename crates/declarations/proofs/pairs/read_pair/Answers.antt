-- `read_pair` meets its contract: one law for each answer.
use borrow.Author.Rules.{rules}
use mathlib.Core.Path.{◌≡◌, ap, ◌∙◌}
use Rattle.std.specs.Prelude.{Err}
use Rattle.tables.proofs.LineFields.{is_read, not_read}
use Rattle.declarations.proofs.PairLaws.{pair_count, pair_number, pair_class, pair_over, pair_over_class, pair_are}
use Rattle.declarations.proofs.pairs.read_pair.Goals as goal

pub returns-then-f-ne3 : goal.returns-then-f-ne3
returns-then-f-ne3 c = search pair_count

pub returns-in_err-n : goal.returns-in_err-n
returns-in_err-n c =
    let e : c.from_residual.result ≡ Err c.in_err-n.field-0.0 = search rules in
    let d = not_read c.number.ensures c.in_err-n.ensures.value in
    e ∙ ap Err d.1 ∙ pair_number c.args.limit c.requires.0 c.if-f-ne3.false c.field.ensures d.0

pub returns-in_err-c : goal.returns-in_err-c
returns-in_err-c c =
    let e : c.from_residual-in_err-c.result ≡ Err c.in_err-c.field-0.0 = search rules in
    let d = not_read c.number-2.ensures c.in_err-c.ensures.value in
    e ∙ ap Err d.1 ∙ pair_class c.args.limit c.requires.0 c.if-f-ne3.false c.field.ensures c.field-2.ensures (is_read c.number.ensures c.in_ok-n.ensures.value) d.0

pub returns-then-limit-n : goal.returns-then-limit-n
returns-then-limit-n c = pair_over c.args.limit c.requires.0 c.if-f-ne3.false c.field.ensures c.field-2.ensures (is_read c.number.ensures c.in_ok-n.ensures.value) (is_read c.number-2.ensures c.in_ok-c.ensures.value) c.requires.1 c.if-limit-n.true

pub returns-then-c-ge-MOST_CLASSES : goal.returns-then-c-ge-MOST_CLASSES
returns-then-c-ge-MOST_CLASSES c = pair_over_class c.args.limit c.requires.0 c.if-f-ne3.false c.field.ensures c.field-2.ensures (is_read c.number.ensures c.in_ok-n.ensures.value) (is_read c.number-2.ensures c.in_ok-c.ensures.value) c.requires.1 c.if-limit-n.false c.if-c-ge-MOST_CLASSES.true

pub returns : goal.returns
returns c = pair_are c.args.limit c.requires.0 c.if-f-ne3.false c.field.ensures c.field-2.ensures (is_read c.number.ensures c.in_ok-n.ensures.value) (is_read c.number-2.ensures c.in_ok-c.ensures.value) c.requires.1 c.if-limit-n.false c.if-c-ge-MOST_CLASSES.false
