-- `again_lines` meets its contract. Assumes nothing.
use Rattle.renewal.proofs.AgainLaws.{again_none, again_room, again_next, again_all}
use borrow.Author.Rules.{rules}
use Rattle.renewal.proofs.again.again_lines.Goals as goal

pub loop-o-init : goal.loop-o-init
loop-o-init c = again_none _ _

pub again_line-end-requires : goal.again_line-end-requires
again_line-end-requires c = search (again_room, rules)

pub loop-o-preserved : goal.loop-o-preserved
loop-o-preserved c = search again_next

pub returns : goal.returns
returns c = search again_all
