-- `sign_level` meets its contract. Assumes nothing.
use Rattle.std.proofs.Common.{rules, tests}
use Rattle.phrases.specs.Forms.{sign_level}
use Rattle.phrases.proofs.words.sign_level.Goals as goal

pub returns-in-24 : goal.returns-in-24
unfolding sign_level
returns-in-24 c = search (tests, rules)

pub returns-in-23 : goal.returns-in-23
unfolding sign_level
returns-in-23 c = search (tests, rules)

pub returns-in-13-to-14 : goal.returns-in-13-to-14
unfolding sign_level
returns-in-13-to-14 c = search (tests, rules)

pub returns-in-15-to-16 : goal.returns-in-15-to-16
unfolding sign_level
returns-in-15-to-16 c = search (tests, rules)

pub returns-in_default : goal.returns-in_default
unfolding sign_level
returns-in_default c = search (tests, rules)

pub returns-in_default-2 : goal.returns-in_default-2
unfolding sign_level
returns-in_default-2 c = search (tests, rules)

pub returns-in-17-to-19 : goal.returns-in-17-to-19
unfolding sign_level
returns-in-17-to-19 c = search (tests, rules)

pub returns-in-17-to-19-2 : goal.returns-in-17-to-19-2
unfolding sign_level
returns-in-17-to-19-2 c = search (tests, rules)
