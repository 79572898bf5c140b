-- `skip` meets its contract.
use borrow.Author.Rules.{rules}
use Rattle.tokens.proofs.TokenLaws.{space_next}
use Rattle.tokens.proofs.cutting.skip.Goals as goal

pub loop-i-preserved : goal.loop-i-preserved
loop-i-preserved c = search (space_next, rules)
