-- `rows_sheet` meets its contract. Assumes nothing.
use native.Mathlib.Omega.{arith}
use borrow.Author.Rules.{rules}
use lib.ListN.{length-take}
use Rattle.rows.proofs.RuleLaws.{rooted}
use Rattle.rows.proofs.SheetLaws.{rows_short, rows_written}
use Rattle.rows.proofs.rows_sheet.Goals as goal

pub put_lines-end-requires : goal.put_lines-end-requires
put_lines-end-requires c = (search rules, search rules, search rules, search rooted)

pub returns-then-out-end : goal.returns-then-out-end
returns-then-out-end c = search rows_short

pub slice_bounds-put_bytes-end : goal.slice_bounds-put_bytes-end
slice_bounds-put_bytes-end c = simp length-take (omega arith)

pub put_bytes-requires : goal.put_bytes-requires
put_bytes-requires c = simp length-take (omega arith)

pub returns : goal.returns
returns c = search rows_written
