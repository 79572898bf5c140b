-- `call_kind` meets its contract. Assumes nothing.
use Rattle.std.proofs.Common.{rules, tests}
use Rattle.phrases.specs.Forms.{call_kind}
use Rattle.phrases.proofs.steps.call_kind.Goals as goal

pub returns-in-34 : goal.returns-in-34
unfolding call_kind
returns-in-34 c = search (tests, rules)

pub returns-in-35 : goal.returns-in-35
unfolding call_kind
returns-in-35 c = search (tests, rules)

pub returns-in-8-to-11 : goal.returns-in-8-to-11
unfolding call_kind
returns-in-8-to-11 c = search (tests, rules)

pub returns-in-20-to-22 : goal.returns-in-20-to-22
unfolding call_kind
returns-in-20-to-22 c = search (tests, rules)

pub returns-in-25-to-26 : goal.returns-in-25-to-26
unfolding call_kind
returns-in-25-to-26 c = search (tests, rules)

pub returns-in_default : goal.returns-in_default
unfolding call_kind
returns-in_default c = search (tests, rules)

pub returns-in_default-2 : goal.returns-in_default-2
unfolding call_kind
returns-in_default-2 c = search (tests, rules)

pub returns-in_default-3 : goal.returns-in_default-3
unfolding call_kind
returns-in_default-3 c = search (tests, rules)

pub returns-in_default-4 : goal.returns-in_default-4
unfolding call_kind
returns-in_default-4 c = search (tests, rules)
