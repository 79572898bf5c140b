-- `evaluation::answers::pack` meets its contract. Assumes nothing.
use borrow.Author.Rules.{rules}
use Rattle.evaluation.proofs.Packing.{packs_value, packs_undefined, packs_stuck, packs_stop}
use Rattle.evaluation.proofs.answers.pack.Goals as goal

pub returns-in-Value : goal.returns-in-Value
returns-in-Value c = rw c.in-Value.is (packs_value _ _ c.word_of.ensures)

pub returns-in-Undef : goal.returns-in-Undef
returns-in-Undef c = rw c.in-Undef.is (packs_undefined _ _ c.word_of-in-Undef.ensures)

pub returns-in-Stuck : goal.returns-in-Stuck
returns-in-Stuck c = packs_stuck (search rules)

pub returns-in-Stop : goal.returns-in-Stop
returns-in-Stop c = rw c.in-Stop.is (packs_stop _ _ c.word_of-in-Stop.ensures)
