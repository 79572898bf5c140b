-- `number_fields` meets its contract.
use mathlib.Core.Path.{refl, sym, ap, ◌∙◌}
use borrow.Author.Rules.{rules}
use lib.ListN.{length-set}
use Rattle.sheet.specs.Lines.{a_number}
use Rattle.text.specs.Numbers.{cut_num}
use Rattle.shapes.proofs.FieldLaws.{read_none, read_all, read_bad, read_next, field_count}
use Rattle.shapes.proofs.numbers.number_fields.Goals as goal

pub loop-i-init : goal.loop-i-init
loop-i-init c = (read_none _ _ _, search rules, search rules, refl)

pub returns-in_default : goal.returns-in_default
returns-in_default c = read_bad c.loop-i.invariant.0 c.loop-i-test.true (field_count c.requires.0 c.requires.3) (sym c.in_default.is ∙ c.number.ensures ∙ ap (λ x. cut_num (a_number x)) c.field.ensures) c.no_numbers.ensures

pub loop-i-preserved : goal.loop-i-preserved
loop-i-preserved c = (read_next c.loop-i.invariant.0 c.loop-i-test.true (field_count c.requires.0 c.requires.3) (sym c.in-Some.is ∙ c.number.ensures ∙ ap (λ x. cut_num (a_number x)) c.field.ensures) c.requires.2, search rules, search rules, simp length-set c.loop-i.invariant.3)

pub returns : goal.returns
returns c = search read_all
