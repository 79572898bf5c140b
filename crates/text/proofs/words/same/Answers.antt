-- `same` meets its contract. What is left of both is equal exactly if both are. Assumes nothing.
use borrow.Author.Rules.{rules}
use Rattle.text.proofs.WordLaws.{other_length, same_end, same_not, same_next}
use Rattle.text.proofs.words.same.Goals as goal

pub returns-then-f-w : goal.returns-then-f-w
returns-then-f-w c = other_length _ _ c.if-f-w.true

pub returns-then-f-i : goal.returns-then-f-i
returns-then-f-i c = search same_not

pub loop-i-preserved : goal.loop-i-preserved
loop-i-preserved c = search (same_next, rules)

pub returns : goal.returns
returns c = search same_end
