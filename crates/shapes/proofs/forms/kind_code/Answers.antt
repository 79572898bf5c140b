-- `kind_code` meets its contract.
use mathlib.Core.Path.{sym, ◌∙◌}
use Rattle.shapes.proofs.LiteralLaws.{kind_set, kind_sequence, kind_bag, kind_other}
use Rattle.shapes.proofs.forms.kind_code.Goals as goal

pub returns-in-83 : goal.returns-in-83
returns-in-83 c = kind_set _ (sym c.letter.ensures ∙ c.in-83.is)

pub returns-in-81 : goal.returns-in-81
returns-in-81 c = kind_sequence _ (sym c.letter.ensures ∙ c.in-81.is)

pub returns-in-66 : goal.returns-in-66
returns-in-66 c = kind_bag _ (sym c.letter.ensures ∙ c.in-66.is)

pub returns-in_default : goal.returns-in_default
returns-in_default c = kind_other _ (λ q. c.in_default.in_default-own.rest.0.0.1 (c.letter.ensures ∙ q)) (λ q. c.in_default.in_default-own.rest.0.1 (c.letter.ensures ∙ q)) (λ q. c.in_default.in_default-own.rest.1 (c.letter.ensures ∙ q))
