-- `rearrange` meets its contract. Assumes nothing.
use Rattle.renewal.proofs.SpreadLaws.{rearranged, gathered_placing, standing_by}
use borrow.Author.Rules.{rules}
use Rattle.renewal.proofs.spread.rearrange.Goals as goal

pub gather-requires : goal.gather-requires
gather-requires c = search (standing_by, rules)

pub spread_rules-requires : goal.spread_rules-requires
spread_rules-requires c = search gathered_placing

pub returns : goal.returns
returns c = search rearranged
