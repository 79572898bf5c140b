-- `place` meets its contract. Assumes nothing.
use Rattle.rows.specs.Bits.{bit}
use Rattle.moves.proofs.PlaceLaws.{PlacedTo}
use Rattle.moves.proofs.placed.place.Given as goal

abbrev pub invariant-loop-r : goal.invariant-loop-r
invariant-loop-r l = PlacedTo l.ends l.fresh l.n (bit l.new) l.room l.initial.placed l.placed l.r l.total
