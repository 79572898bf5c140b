-- `values::cells::copy_cells` meets its contract. Assumes nothing.
use mathlib.Core.Path.{◌≡◌}
use lib.ListN.{length}
use lib.Seq.{paste}
use Rattle.values.proofs.cells.copy_cells.Given as goal

abbrev pub invariant-loop-i : goal.invariant-loop-i
invariant-loop-i l = (l.stack ≡ paste l.initial.stack l.at l.cells l.i) × (length l.stack ≡ length l.initial.stack)
