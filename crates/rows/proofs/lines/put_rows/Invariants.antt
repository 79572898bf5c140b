-- `put_rows` meets its contract. Assumes nothing.
use Rattle.rows.proofs.LineLaws.{RowsTo}
use Rattle.rows.proofs.lines.put_rows.Given as goal

abbrev pub invariant-loop-i : goal.invariant-loop-i
invariant-loop-i l = RowsTo l.seen l.at l.i l.initial.out l.out l.end
