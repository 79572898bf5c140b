-- `put_line` meets its contract. Assumes nothing.
use native.Mathlib.Omega.{arith}
use borrow.Author.Rules.{rules}
use Rattle.rows.proofs.LineLaws.{two_digits, fields_room, feed_room, line_put}
use Rattle.rows.proofs.lines.put_line.Goals as goal

pub put_number-first-requires : goal.put_number-first-requires
put_number-first-requires c = omega (arith, two_digits _ c.requires.0)

pub put_rows-end-requires : goal.put_rows-end-requires
put_rows-end-requires c = (search rules, search fields_room)

pub put_byte-requires : goal.put_byte-requires
put_byte-requires c = search feed_room

pub returns : goal.returns
returns c = search line_put
