-- `step` meets its contract. Assumes nothing.
use Rattle.phrases.proofs.DotLaws.{no_step, a_dot, an_arrow}
use Rattle.phrases.proofs.steps.step.Goals as goal

pub returns-in-48 : goal.returns-in-48
returns-in-48 c = search a_dot

pub returns-in-49 : goal.returns-in-49
returns-in-49 c = search an_arrow

pub returns-in_default : goal.returns-in_default
returns-in_default c = search no_step
