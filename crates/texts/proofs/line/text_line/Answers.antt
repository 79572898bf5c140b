-- `text_line` meets its contract.
use native.Mathlib.Omega.{arith}
use Rattle.texts.proofs.LineLaws.{nodes_held, line_fields, line_brackets, line_sentence, line_judged}
use Rattle.texts.proofs.line.text_line.Goals as goal

pub returns-then-f-ne2 : goal.returns-then-f-ne2
returns-then-f-ne2 c = search line_fields

pub returns-then-not-few_open : goal.returns-then-not-few_open
returns-then-not-few_open c = search line_brackets

pub returns-in_default : goal.returns-in_default
returns-in_default c = line_sentence c.requires.0 c.requires.1 c.if-f-ne2.false c.field-text.ensures c.few_open.ensures c.if-not-few_open.false (rw c.in_default.is at c.import.ensures)

pub judge-requires : goal.judge-requires
judge-requires c = (c.requires.2, c.requires.3, omega (arith, c.requires.4, c.import.ensures.kept.size), c.requires.5, nodes_held (rw c.in-Some.is at c.import.ensures))

pub returns : goal.returns
returns c = line_judged c.requires.0 c.requires.1 c.if-f-ne2.false c.field-text.ensures c.few_open.ensures c.if-not-few_open.false (rw c.in-Some.is at c.import.ensures) c.judge.ensures
