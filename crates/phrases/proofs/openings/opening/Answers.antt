-- `opening` meets its contract. Assumes nothing.
use mathlib.Core.Path.{sym, ◌∙◌}
use Rattle.phrases.proofs.OpeningLaws.{at-end, a_condition, a_bracket, a_class}
use Rattle.phrases.proofs.openings.opening.Goals as goal

pub collection-requires : goal.collection-requires
collection-requires c = (c.requires, sym c.is_collection.ensures ∙ c.if-is_collection.true)

pub returns-in-31 : goal.returns-in-31
returns-in-31 c = search a_condition

pub returns-in-40 : goal.returns-in-40
returns-in-40 c = search a_bracket

pub returns-in-65 : goal.returns-in-65
returns-in-65 c = search at-end

pub returns-in_default : goal.returns-in_default
returns-in_default c = search a_class
