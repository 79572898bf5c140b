-- `integer_form` meets its contract.
use mathlib.Core.Path.{sym, ap, ◌∙◌}
use native.Mathlib.Omega.{arith}
use Rattle.sheet.specs.Text.{fields_of}
use Rattle.sheet.specs.Lines.{an_integer}
use Rattle.text.specs.Numbers.{whole_of}
use Rattle.text.proofs.LiteralLaws.{whole_narrow}
use Rattle.shapes.proofs.LiteralLaws.{integer_not, integer_one}
use Rattle.shapes.proofs.FieldLaws.{rest_first, rest_exact, rest_not}
use Rattle.shapes.proofs.literals.integer_form.Goals as goal

pub returns-then-f-ne4 : goal.returns-then-f-ne4
returns-then-f-ne4 c = rw (integer_not _ (rest_not c.requires.0 1 (omega arith) c.requires.1 c.if-f-ne4.true)) (c.misspelled.ensures _)

pub integer_literal-requires : goal.integer_literal-requires
integer_literal-requires c = whole_narrow _ c.integer.ensures

pub returns : goal.returns
returns c =
    rw (integer_one _ (rest_exact c.requires.0 1 (omega arith) c.if-f-ne4.false))
    (c.number_form.ensures _ (c.integer_literal.ensures _ (c.integer.ensures ∙ ap (λ x. whole_of (an_integer x)) (c.field.ensures ∙ sym (rest_first (fields_of c.args.line.now))))))
