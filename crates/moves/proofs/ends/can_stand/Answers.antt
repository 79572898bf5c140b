-- `can_stand` meets its contract. Assumes nothing.
use mathlib.Core.Bool.{true, false}
use Rattle.std.proofs.lemmas.List.Sorted.{non_decreasing_from_is_sorted}
use Rattle.moves.proofs.PlaceLaws.{rises, falls, told_end}
use Rattle.moves.proofs.ends.can_stand.Goals as goal

pub returns-then-is_sorted : goal.returns-then-is_sorted
returns-then-is_sorted c = told_end (rises c.requires (non_decreasing_from_is_sorted _ true c.if-is_sorted.ensures.cases)) c.args.out.now c.start_of.ensures

pub returns-else-is_sorted : goal.returns-else-is_sorted
returns-else-is_sorted c = rw c.if-is_sorted.false (falls c.requires c.args.out.now (non_decreasing_from_is_sorted _ false c.if-is_sorted.ensures.cases))
