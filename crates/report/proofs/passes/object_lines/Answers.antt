-- `object_lines` meets its contract. Assumes nothing.
use mathlib.Core.Path.{refl}
use native.Mathlib.Omega.{arith}
use Rattle.report.proofs.PassLaws.{lines_none, lines_room, lines_next, lines_end}
use Rattle.report.proofs.passes.object_lines.Goals as goal

pub loop-o-init : goal.loop-o-init
loop-o-init c = lines_none _ _

pub object_line-sum-requires : goal.object_line-sum-requires
object_line-sum-requires c = record { least_words_in_bounds = (c.requires.least_words_in_bounds.0, c.requires.least_words_in_bounds.1, omega (arith, c.requires.least_words_in_bounds.2, c.loop-o.invariant.kept.size)); room_for = (lines_room c.loop-o.invariant c.loop-o-test.true c.requires.room_for refl refl, c.loop-o-test.true) }

pub loop-o-preserved : goal.loop-o-preserved
loop-o-preserved c = search (lines_next, lines_room)

pub returns : goal.returns
returns c = lines_end c.loop-o.invariant (omega (arith, c.loop-o.invariant.within, c.loop-o-test.false))
