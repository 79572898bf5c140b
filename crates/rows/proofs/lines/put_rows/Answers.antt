-- `put_rows` meets its contract. Assumes nothing.
use native.Mathlib.Omega.{arith}
use Rattle.rows.proofs.LineLaws.{rows_none, rows_room, rows_next, rows_all}
use Rattle.rows.proofs.lines.put_rows.Goals as goal

pub loop-i-init : goal.loop-i-init
loop-i-init c = rows_none

pub put_row-end-requires : goal.put_row-end-requires
put_row-end-requires c = (omega arith, search rows_room)

pub loop-i-preserved : goal.loop-i-preserved
loop-i-preserved c = search rows_next

pub returns : goal.returns
returns c = search rows_all
