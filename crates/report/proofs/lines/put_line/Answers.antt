-- `put_line` meets its contract. Assumes nothing.
use mathlib.Core.Path.{◌∙◌}
use native.Mathlib.Omega.{arith}
use Rattle.report.proofs.LineLaws.{rule_room, object_room, outcome_fits, steps_room, puts_line}
use Rattle.report.proofs.lines.put_line.Goals as goal

pub put_column-second-requires : goal.put_column-second-requires
put_column-second-requires c = search rule_room

pub put_column-third-requires : goal.put_column-third-requires
put_column-third-requires c = omega (arith, c.put_column-second.auto.out, object_room c.requires c.put_column-second.ensures)

pub put_outcome-last-requires : goal.put_outcome-last-requires
put_outcome-last-requires c = outcome_fits c.requires c.put_column-second.ensures c.put_column-third.ensures (c.put_column-third.auto.out ∙ c.put_column-second.auto.out)

pub put_steps-requires : goal.put_steps-requires
put_steps-requires c = omega (arith, c.put_column-second.auto.out, c.put_column-third.auto.out, c.put_outcome-last.auto.out, steps_room c.requires c.put_column-second.ensures c.put_column-third.ensures c.put_outcome-last.ensures c.steps_of.ensures)

pub returns : goal.returns
returns c = search puts_line
