-- `nearest` meets its contract. The loop's invariant: the class reached reads the row that c reads.
use mathlib.Core.Path.{◌≡◌}
use Rattle.types.specs.Rows.{row_read_in}
use Rattle.types.proofs.rows.nearest.Given as goal

abbrev pub invariant-loop-f : goal.invariant-loop-f
invariant-loop-f l = row_read_in l.parents l.owners l.names l.end l.x l.name ≡ row_read_in l.parents l.owners l.names l.end l.c l.name

abbrev pub decreases-loop-f : goal.decreases-loop-f
decreases-loop-f l = l.x
