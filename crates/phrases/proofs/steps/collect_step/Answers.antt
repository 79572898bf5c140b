-- `collect_step` meets its contract. Assumes nothing.
use Rattle.phrases.proofs.StepLaws.{no_collect, collected}
use Rattle.phrases.proofs.steps.collect_step.Goals as goal

pub returns-in_default : goal.returns-in_default
returns-in_default c = search no_collect

pub returns : goal.returns
returns c = search collected
