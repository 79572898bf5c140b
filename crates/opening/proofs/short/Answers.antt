-- `short` meets its contract.
use Rattle.opening.proofs.Answers.{short01, short2}
use Rattle.opening.proofs.short.Goals as goal

pub returns-then-w1-lt-LEAST_WORDS : goal.returns-then-w1-lt-LEAST_WORDS
returns-then-w1-lt-LEAST_WORDS c = search short01

pub returns-else-w1-lt-LEAST_WORDS : goal.returns-else-w1-lt-LEAST_WORDS
returns-else-w1-lt-LEAST_WORDS c = short2 _ _ _ c.if-w1-lt-LEAST_WORDS.false.0 c.if-w1-lt-LEAST_WORDS.false.1
