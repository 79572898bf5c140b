-- `row_type` meets its contract. Assumes nothing.
use Prim.Native.Nat.{◌<◌}
use native.Mathlib.Omega.{arith}
use Rattle.judgements.proofs.AttributeRows.{row_small, no_row_lem, row_at}
use Rattle.judgements.proofs.attributes.row_type.Goals as goal

pub returns-in_default : goal.returns-in_default
returns-in_default c = search (no_row_lem, c.at.ensures)

pub overflow_add-marks : goal.overflow_add-marks
overflow_add-marks c = let h : c.in-Some.i < c.args.rows = row_small _ _ _ _ _ _ _ c.row_read.ensures c.in-Some.is in omega arith

pub overflow_add-at : goal.overflow_add-at
overflow_add-at c = let h : c.in-Some.i < c.args.rows = row_small _ _ _ _ _ _ _ c.row_read.ensures c.in-Some.is in omega arith

pub offset_bounds-tables-at : goal.offset_bounds-tables-at
offset_bounds-tables-at c = let h : c.in-Some.i < c.args.rows = row_small _ _ _ _ _ _ _ c.row_read.ensures c.in-Some.is in omega arith

pub bounds-tables-at : goal.bounds-tables-at
bounds-tables-at c = let h : c.in-Some.i < c.args.rows = row_small _ _ _ _ _ _ _ c.row_read.ensures c.in-Some.is in omega arith

pub returns : goal.returns
returns c = search row_at
