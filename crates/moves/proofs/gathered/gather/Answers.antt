-- `gather` meets its contract. Assumes nothing.
use native.Mathlib.Omega.{arith}
use Rattle.moves.proofs.GatherLaws.{gathered_none, starts_below, gather_left, gather_within, gather_next, gather_end}
use borrow.Author.Rules.{rules}
use Rattle.moves.proofs.gathered.gather.Goals as goal

pub loop-r-init : goal.loop-r-init
loop-r-init c = search gathered_none

pub staying_size-size-requires : goal.staying_size-size-requires
staying_size-size-requires c = (search rules, search rules, search starts_below)

pub shift_left-requires : goal.shift_left-requires
shift_left-requires c = (search gather_left, search gather_within)

pub overflow_add-at : goal.overflow_add-at
overflow_add-at c = omega (arith, gather_left c.loop-r.invariant c.loop-r-test.true c.start_of.ensures c.staying_size-size.ensures c.requires.2, gather_within c.loop-r.invariant c.loop-r-test.true c.start_of.ensures c.staying_size-size.ensures c.requires.2)

pub loop-r-preserved : goal.loop-r-preserved
loop-r-preserved c = search gather_next

pub returns : goal.returns
returns c = search gather_end
