-- `put_place` meets its contract. Assumes nothing.
use native.Mathlib.Omega.{arith}
use Rattle.report.proofs.LineLaws.{place_rule_room, place_object_room, place_line_room, place_step_room, puts_place}
use Rattle.report.proofs.origins.put_place.Goals as goal

pub put_column-second-requires : goal.put_column-second-requires
put_column-second-requires c = search place_rule_room

pub put_column-third-requires : goal.put_column-third-requires
put_column-third-requires c = omega (arith, c.put_column-second.auto.out, place_object_room c.requires c.put_column-second.ensures)

pub put_number-last-requires : goal.put_number-last-requires
put_number-last-requires c = omega (arith, c.put_column-second.auto.out, c.put_column-third.auto.out, place_line_room c.requires c.put_column-second.ensures c.put_column-third.ensures)

pub put_steps-requires : goal.put_steps-requires
put_steps-requires c = omega (arith, c.put_column-second.auto.out, c.put_column-third.auto.out, c.put_number-last.auto.out, place_step_room c.requires c.put_column-second.ensures c.put_column-third.ensures c.put_number-last.ensures)

pub returns : goal.returns
returns c = search puts_place
