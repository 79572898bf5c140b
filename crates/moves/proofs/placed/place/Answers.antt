-- `place` meets its contract. Assumes nothing.
use Rattle.moves.proofs.PlaceLaws.{placed_none, long_by_old, long_by_new, placed_next, placed_all}
use borrow.Author.Rules.{rules}
use Rattle.moves.proofs.placed.place.Goals as goal
use Rattle.moves.proofs.placed.place.Goals.{then-room-total-via-then-room-total, then-room-total-via-else-room-total+then-room-total-2}

pub loop-r-init : goal.loop-r-init
loop-r-init c = placed_none

pub staying_size-stays-requires : goal.staying_size-stays-requires
staying_size-stays-requires c = (search rules, search rules, c.requires.rising.0.at _ c.loop-r-test.true)

pub piece_size-arrives-requires : goal.piece_size-arrives-requires
piece_size-arrives-requires c = (search rules, c.requires.rising.1.at _ c.loop-r-test.true)

pub returns-then-room-total : goal.returns-then-room-total
returns-then-room-total c =
    let stays = c.staying_size-stays.ensures in
    let arrives = c.piece_size-arrives.ensures in
    elim c.then-room-total.branch [
      | then-room-total-via-then-room-total w ↦ long_by_old c.loop-r.invariant c.loop-r-test.true stays arrives w.if-room-total.true
      | then-room-total-via-else-room-total+then-room-total-2 w ↦ long_by_new c.loop-r.invariant c.loop-r-test.true stays arrives w.if-room-total.false w.if-room-total-2.true
    ]

pub loop-r-preserved : goal.loop-r-preserved
loop-r-preserved c = search placed_next

pub returns : goal.returns
returns c = search placed_all
