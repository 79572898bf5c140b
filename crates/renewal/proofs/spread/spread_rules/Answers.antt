-- `spread_rules` meets its contract. Assumes nothing.
use Rattle.renewal.proofs.SpreadLaws.{spread_start, still_placing, spread_turn, spread_done}
use borrow.Author.Rules.{rules}
use Rattle.renewal.proofs.spread.spread_rules.Goals as goal

pub loop-r-init : goal.loop-r-init
loop-r-init c = spread_start _ _ c.wide-r.ensures

pub put_rule-requires : goal.put_rule-requires
put_rule-requires c = search (still_placing, rules)

pub loop-r-preserved : goal.loop-r-preserved
loop-r-preserved c = search spread_turn

pub returns : goal.returns
returns c = search spread_done
