-- `evaluation::answers::place_of` meets its contract. Assumes nothing.
use borrow.Author.Rules.{rules}
use Rattle.evaluation.specs.Traces.{place_of}
use Rattle.evaluation.proofs.answers.place_of.Goals as goal

pub returns : goal.returns
unfolding place_of
returns c = search rules
