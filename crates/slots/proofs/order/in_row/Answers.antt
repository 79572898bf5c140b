-- `slots::order::in_row` meets its contract. Assumes nothing.
use Rattle.slots.proofs.OrderLaws.{row_free, row_start, row_last, row_not, row_again, row_end}
use native.Mathlib.Omega.{arith}
use Rattle.slots.proofs.order.in_row.Goals as goal

pub returns-then-may_follow : goal.returns-then-may_follow
returns-then-may_follow c = search row_free

pub loop-q-init : goal.loop-q-init
loop-q-init c = search row_start

pub returns-then-r-end : goal.returns-then-r-end
returns-then-r-end c = search row_last

pub compare-requires : goal.compare-requires
compare-requires c =
    let b = c.loop-q.invariant.room in
    let d = c.skip-r.ensures.within in
    let x = c.skip-s.ensures.within in
    let y = c.skip-r.ensures.up c.loop-q-test.true in
    let u = c.skip-s.ensures.up (omega arith) in
    omega arith

pub returns-then-not-may_follow : goal.returns-then-not-may_follow
returns-then-not-may_follow c = search row_not

pub loop-q-smaller : goal.loop-q-smaller
loop-q-smaller c = let u = c.skip-r.ensures.up c.loop-q-test.true in omega arith

pub loop-q-preserved : goal.loop-q-preserved
loop-q-preserved c = row_again c.loop-q.invariant c.loop-q-test.true c.skip-r.ensures c.if-r-end.false c.skip-s.ensures c.compare.ensures c.may_follow-in-loop-q.ensures (c.if-not-may_follow.false)

pub returns : goal.returns
returns c = search row_end
