-- `is_letter` meets its contract. Assumes nothing.
use Rattle.std.proofs.Common.{rules, tests}
use Rattle.phrases.specs.Forms.{is_letter}
use Rattle.phrases.proofs.typed.is_letter.Goals as goal

pub returns-in-59-to-62 : goal.returns-in-59-to-62
unfolding is_letter
returns-in-59-to-62 c = search (tests, rules)

pub returns-in_default : goal.returns-in_default
unfolding is_letter
returns-in_default c = search (tests, rules)

pub returns-in_default-2 : goal.returns-in_default-2
unfolding is_letter
returns-in_default-2 c = search (tests, rules)
