-- `closing` meets its contract. Assumes nothing.
use Rattle.phrases.proofs.StepLaws.{unclosed, closed}
use Rattle.phrases.proofs.steps.closing.Goals as goal

pub returns-in_default : goal.returns-in_default
returns-in_default c = λ f k. unclosed c.after-closed.ensures f c.in_default.is

pub returns : goal.returns
returns c = λ f k. closed c.after-closed.ensures f c.in-Some.is k
