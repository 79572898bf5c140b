-- `arrow_step` meets its contract. Assumes nothing.
use Rattle.phrases.proofs.WordLaws.{came_ahead}
use Rattle.phrases.proofs.DotLaws.{arrow_end, arrow_unopened, arrow_call}
use Rattle.phrases.proofs.steps.arrow_step.Goals as goal

pub returns-then-t-eq-END : goal.returns-then-t-eq-END
returns-then-t-eq-END c = search arrow_end

pub returns-in_default : goal.returns-in_default
returns-in_default c = search arrow_unopened

pub call_step-requires : goal.call_step-requires
call_step-requires c = search came_ahead

pub returns : goal.returns
returns c = search arrow_call
