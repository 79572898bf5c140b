-- `slots::order::may_follow` meets its contract. Assumes nothing.
use borrow.Author.Rules.{rules}
use borrow.Author.Tests.{tests}
use Rattle.slots.specs.Order.{follows}
use Rattle.slots.proofs.order.may_follow.Goals as goal

pub returns-in-3 : goal.returns-in-3
unfolding follows
returns-in-3 c = search (rules, tests)

pub returns-in-5 : goal.returns-in-5
unfolding follows
returns-in-5 c = search (rules, tests)

pub returns-in_default : goal.returns-in_default
unfolding follows
returns-in_default c = search (rules, tests)
