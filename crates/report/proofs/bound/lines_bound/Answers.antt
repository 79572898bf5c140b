-- `lines_bound` meets its contract. Assumes nothing.
use native.Mathlib.Omega.{arith}
use Rattle.report.proofs.BoundLaws.{bound_few, bounds_lines}
use Rattle.report.proofs.bound.lines_bound.Goals as goal

pub overflow_mul-result : goal.overflow_mul-result
overflow_mul-result c = omega (arith, bound_few _ _ c.count_objects-n.ensures c.line_width.ensures)

pub returns : goal.returns
returns c = search bounds_lines
