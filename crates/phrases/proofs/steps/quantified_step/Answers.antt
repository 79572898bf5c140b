-- `quantified_step` meets its contract. Assumes nothing.
use Rattle.phrases.proofs.StepLaws.{no_variable, variable_bar}
use Rattle.phrases.proofs.steps.quantified_step.Goals as goal

pub returns-in_default : goal.returns-in_default
returns-in_default c = λ q k. no_variable c.labelled_before-variable.ensures q k c.in_default.is

pub returns : goal.returns
returns c = λ q k. variable_bar c.labelled_before-variable.ensures q k c.in-Some.is
