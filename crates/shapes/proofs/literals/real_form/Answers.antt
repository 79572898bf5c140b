-- `real_form` meets its contract.
use mathlib.Core.Path.{sym, ap, ◌∙◌}
use native.Mathlib.Omega.{arith}
use Rattle.laws.specs.Choice.{map_some}
use Rattle.reals.specs.Reals.{real}
use Rattle.sheet.specs.Text.{fields_of}
use Rattle.sheet.specs.Lines.{a_real}
use Rattle.text.specs.Literals.{literal_of}
use Rattle.shapes.proofs.LiteralLaws.{real_not, real_one}
use Rattle.shapes.proofs.FieldLaws.{rest_first, rest_exact, rest_not}
use Rattle.shapes.proofs.literals.real_form.Goals as goal

pub returns-then-f-ne4 : goal.returns-then-f-ne4
returns-then-f-ne4 c = rw (real_not _ (rest_not c.requires.0 1 (omega arith) c.requires.1 c.if-f-ne4.true)) (c.misspelled.ensures _)

pub returns : goal.returns
returns c =
    rw (real_one _ (rest_exact c.requires.0 1 (omega arith) c.if-f-ne4.false))
    (c.number_form.ensures _ (c.real_literal.ensures ∙ ap (λ x. literal_of (map_some real (a_real x))) (c.field.ensures ∙ sym (rest_first (fields_of c.args.line.now)))))
