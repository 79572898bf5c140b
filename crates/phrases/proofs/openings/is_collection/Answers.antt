-- `is_collection` meets its contract. Assumes nothing.
use Rattle.std.proofs.Common.{rules, tests}
use Rattle.phrases.specs.Forms.{is_collection}
use Rattle.phrases.proofs.openings.is_collection.Goals as goal

pub returns-in-27-to-29 : goal.returns-in-27-to-29
unfolding is_collection
returns-in-27-to-29 c = search (tests, rules)

pub returns-in_default : goal.returns-in_default
unfolding is_collection
returns-in_default c = search (tests, rules)

pub returns-in_default-2 : goal.returns-in_default-2
unfolding is_collection
returns-in_default-2 c = search (tests, rules)
