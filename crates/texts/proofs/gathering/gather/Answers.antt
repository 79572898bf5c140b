-- `gather` meets its contract: what is gathered of the first nodes.
use borrow.Author.Rules.{rules}
use Rattle.texts.proofs.GatherLaws.{eight_words, gathers_none, gathers_next, gathers_all}
use Rattle.texts.proofs.gathering.gather.Goals as goal

pub loop-i-init : goal.loop-i-init
loop-i-init c = (gathers_none _ _, search rules)

pub with_node-g-requires : goal.with_node-g-requires
with_node-g-requires c = search eight_words

pub loop-i-preserved : goal.loop-i-preserved
loop-i-preserved c = search (gathers_next, rules)

pub returns : goal.returns
returns c = search gathers_all
