-- `node_line` meets its contract.
use Rattle.trees.proofs.LineLaws.{line_short, line_number, line_form, line_placed}
use Rattle.text.specs.Words.{form_code}
use Rattle.text.specs.Numbers.{cut_num}
use Rattle.sheet.specs.Lines.{a_number}
use mathlib.Core.Path.{sym, ap, ◌∙◌}
use Rattle.trees.proofs.node.node_line.Goals as goal

pub returns-then-f-lt3 : goal.returns-then-f-lt3
returns-then-f-lt3 c = search line_short

pub returns-in_default : goal.returns-in_default
returns-in_default c = line_number c.requires.0 c.requires.1 c.if-f-lt3.false (sym c.in_default.is ∙ c.number.ensures ∙ ap (λ x. cut_num (a_number x)) c.field.ensures)

pub returns-then-not-p : goal.returns-then-not-p
returns-then-not-p c = line_form c.requires.0 c.requires.1 c.if-f-lt3.false (c.form_code.ensures ∙ ap form_code c.field-2.ensures) c.read_form-p.ensures c.if-not-p.true

pub returns : goal.returns
returns c = line_placed c.requires.0 c.requires.1 c.if-f-lt3.false (c.form_code.ensures ∙ ap form_code c.field-2.ensures) c.read_form-p.ensures (sym c.in-Some.is ∙ c.number.ensures ∙ ap (λ x. cut_num (a_number x)) c.field.ensures) c.if-not-p.false c.place_node.ensures
