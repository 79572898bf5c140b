-- `empty_call` meets its contract. Assumes nothing.
use Rattle.phrases.proofs.WordLaws.{came_ahead}
use Rattle.phrases.proofs.StepLaws.{unopened, opened}
use Rattle.phrases.proofs.steps.empty_call.Goals as goal

pub returns-in_default : goal.returns-in_default
returns-in_default c = λ f k. unopened c.after-opened.ensures f c.in_default.is

pub closing-requires : goal.closing-requires
closing-requires c = search came_ahead

pub returns : goal.returns
returns c = λ f k. opened c.after-opened.ensures f c.in-Some.is (c.closing.ensures f k)
