-- `put_row` meets its contract. Assumes nothing.
use Rattle.rows.proofs.LineLaws.{row_room, row_seen, row_unseen}
use Rattle.rows.proofs.lines.put_row.Goals as goal

pub put_number-requires : goal.put_number-requires
put_number-requires c = search row_room

pub returns-then-has_bit : goal.returns-then-has_bit
returns-then-has_bit c = search row_seen

pub returns : goal.returns
returns c = search row_unseen
