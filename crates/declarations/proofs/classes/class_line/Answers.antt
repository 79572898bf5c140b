-- `class_line` meets its contract: one law for each refusal, and the class put into its table.
use borrow.Author.Rules.{rules}
use mathlib.Core.Path.{◌≡◌, ap, ◌∙◌}
use Rattle.std.specs.Prelude.{Err}
use Rattle.tables.proofs.LineFields.{num_cut, is_read, not_read}
use Rattle.declarations.proofs.TakenLaws.{unspelled, class_plain, spelled}
use Rattle.declarations.proofs.ParentLaws.{parent_over}
use Rattle.declarations.proofs.ClassLaws.{class_count, class_number, class_parent, class_spelled, class_exact, class_over, class_over_parent}
use Rattle.declarations.proofs.classes.class_line.Goals as goal

pub returns-then-f-ne3 : goal.returns-then-f-ne3
returns-then-f-ne3 c = search (unspelled, class_count)

pub returns-in_err-n : goal.returns-in_err-n
returns-in_err-n c =
    let e : c.from_residual.result ≡ Err c.in_err-n.field-0.0 = search rules in
    let d = not_read c.number.ensures c.in_err-n.ensures.value in
    rw (e ∙ ap Err d.1) (λ w1 k. unspelled c.args.st k c.args.w0.now w1 c.args.line.now (class_number c.requires.0 c.if-f-ne3.false c.field.ensures d.0))

pub returns-in_err-p : goal.returns-in_err-p
returns-in_err-p c =
    let e : c.from_residual-in_err-p.result ≡ Err c.in_err-p.field-0.0 = search rules in
    let d = not_read c.parent.ensures c.in_err-p.ensures.value in
    rw (e ∙ ap Err d.1) (λ w1 k. unspelled c.args.st k c.args.w0.now w1 c.args.line.now
    (class_parent c.requires.0 c.if-f-ne3.false c.field.ensures c.field-2.ensures (is_read c.number.ensures c.in_ok-n.ensures.value) d.0))

pub returns-then-n-ge-MOST_CLASSES : goal.returns-then-n-ge-MOST_CLASSES
returns-then-n-ge-MOST_CLASSES c = λ w1 k.
    let n = is_read c.number.ensures c.in_ok-n.ensures.value in
    spelled c.args.line.now (class_plain _ _) (class_spelled c.requires.0 c.if-f-ne3.false c.field.ensures c.field-2.ensures n (is_read c.parent.ensures c.in_ok-p.ensures.value)) (class_over c.args.st k c.args.w0.now w1 _ _ (num_cut _ n) c.if-n-ge-MOST_CLASSES.true)

pub returns-then-p-gt-MOST_CLASSES : goal.returns-then-p-gt-MOST_CLASSES
returns-then-p-gt-MOST_CLASSES c = λ w1 k.
    let n = is_read c.number.ensures c.in_ok-n.ensures.value in
    let p = is_read c.parent.ensures c.in_ok-p.ensures.value in
    spelled c.args.line.now (class_plain _ _) (class_spelled c.requires.0 c.if-f-ne3.false c.field.ensures c.field-2.ensures n p) (class_over_parent c.args.st k c.args.w0.now w1 _ _ (num_cut _ n) c.if-n-ge-MOST_CLASSES.false (parent_over _ p c.if-p-gt-MOST_CLASSES.true))

pub returns : goal.returns
returns c = λ w1 k. spelled c.args.line.now (class_plain _ _) (class_exact c.requires.0 c.if-f-ne3.false c.field.ensures c.field-2.ensures (is_read c.number.ensures c.in_ok-n.ensures.value) (is_read c.parent.ensures c.in_ok-p.ensures.value) c.if-n-ge-MOST_CLASSES.false c.if-p-gt-MOST_CLASSES.false) (c.put_class.ensures w1 k)
