-- `put_fresh` meets its contract. Assumes nothing.
use native.Mathlib.Omega.{arith}
use Rattle.renewal.proofs.SpreadLaws.{fresh_order, fresh_room, again_fits, fresh_held, fresh_again}
use Rattle.renewal.proofs.spread.put_fresh.Goals as goal

pub slice_bounds-put_bytes-count : goal.slice_bounds-put_bytes-count
slice_bounds-put_bytes-count c = omega (arith, fresh_order c.requires.least_words_in_bounds.3 c.requires.fresh_fits, c.start_of-start.ensures, c.wide-end.ensures)

pub slice_bounds-put_bytes-start : goal.slice_bounds-put_bytes-start
slice_bounds-put_bytes-start c = omega (arith, fresh_order c.requires.least_words_in_bounds.3 c.requires.fresh_fits, c.start_of-start.ensures, c.wide-end.ensures, c.if-end-buf.true)

pub put_bytes-requires : goal.put_bytes-requires
put_bytes-requires c = search fresh_room

pub returns-then-end-buf : goal.returns-then-end-buf
returns-then-end-buf c = search fresh_held

pub again_lines-requires : goal.again_lines-requires
again_lines-requires c = search again_fits

pub returns : goal.returns
returns c = search fresh_again
