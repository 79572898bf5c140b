-- `declared` meets its contract. The loop's invariant: the rows passed hold no such row.
use mathlib.Core.Path.{◌≡◌}
use Rattle.types.specs.Rows.{declared_in}
use Rattle.types.proofs.rows.declared.Given as goal

abbrev pub invariant-loop-i : goal.invariant-loop-i
invariant-loop-i l = declared_in l.owners l.names l.c l.name l.i ≡ declared_in l.owners l.names l.c l.name l.end
