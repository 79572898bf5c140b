-- `put_origin` meets its contract. Assumes nothing.
use borrow.Author.Rules.{rules}
use Rattle.report.proofs.LineLaws.{origin_node, origin_place_fits, puts_origin_place, no_origin_value, no_origin_stuck, no_origin_stop}
use Rattle.report.proofs.origins.put_origin.Goals as goal

pub place_line-line-requires : goal.place_line-line-requires
place_line-line-requires c = search (origin_node, rules)

pub put_place-requires : goal.put_place-requires
put_place-requires c = search origin_place_fits

pub returns-in-Value : goal.returns-in-Value
returns-in-Value c = search no_origin_value

pub returns-in-Undef : goal.returns-in-Undef
returns-in-Undef c = search puts_origin_place

pub returns-in-Stuck : goal.returns-in-Stuck
returns-in-Stuck c = search no_origin_stuck

pub returns-in-Stop : goal.returns-in-Stop
returns-in-Stop c = search no_origin_stop
