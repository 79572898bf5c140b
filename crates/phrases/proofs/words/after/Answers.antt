-- `after` meets its contract. Assumes nothing.
use Rattle.phrases.proofs.WordLaws.{after_other, after_here}
use Rattle.phrases.proofs.words.after.Goals as goal

pub returns-then-t-code : goal.returns-then-t-code
returns-then-t-code c = search after_other

pub returns : goal.returns
returns c = search after_here
