-- `evaluation::answers::word_of` meets its contract. Assumes nothing.
use borrow.Author.Rules.{rules}
use Rattle.evaluation.specs.Traces.{word_of}
use Rattle.evaluation.proofs.answers.word_of.Goals as goal

pub returns : goal.returns
unfolding word_of
returns c = search rules
