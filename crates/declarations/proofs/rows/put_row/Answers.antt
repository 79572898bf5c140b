-- `put_row` meets its contract: one law for each answer.
use native.Mathlib.Omega.{arith}
use lib.ListN.{length-set}
use Rattle.declarations.proofs.RowLaws.{row_block, row_gap, row_twice, row_unknown, row_unknown_type, row_put}
use Rattle.declarations.proofs.rows.put_row.Goals as goal

pub returns-then-st-gt-ROWS : goal.returns-then-st-gt-ROWS
returns-then-st-gt-ROWS c = search row_block

pub returns-then-n-st : goal.returns-then-n-st
returns-then-n-st c = search row_gap

pub returns-then-declares : goal.returns-then-declares
returns-then-declares c = search row_twice

pub returns-then-st-c : goal.returns-then-st-c
returns-then-st-c c = search row_unknown

pub returns-then-not-class_known : goal.returns-then-not-class_known
returns-then-not-class_known c = search row_unknown_type

pub bounds-w0-i-2 : goal.bounds-w0-i-2
bounds-w0-i-2 c = simp length-set (omega arith)

pub bounds-w0-i-3 : goal.bounds-w0-i-3
bounds-w0-i-3 c = simp length-set (omega arith)

pub returns : goal.returns
returns c = search row_put
