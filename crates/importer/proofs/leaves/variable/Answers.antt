-- `variable` meets its contract.
use Rattle.sheet.specs.Grammar.Words.{variable_word}
use Rattle.importer.proofs.LeafLaws.{variable_none, variable_one}
use mathlib.Core.Path.{sym, ◌∙◌}
use Rattle.importer.proofs.leaves.variable.Goals as goal

pub returns-in_default : goal.returns-in_default
unfolding variable_word
returns-in_default c = rw (variable_none _ (sym c.in_default.is ∙ c.label.ensures)) (c.misspelled.ensures _)

pub returns : goal.returns
unfolding variable_word
returns c = variable_one _ (sym c.in-Some.is ∙ c.label.ensures) c.built.ensures
