-- `line_width` meets its contract. Assumes nothing.
use native.Mathlib.Omega.{arith}
use Rattle.rules.proofs.Lengths.{width_within}
use Rattle.types.specs.Flat.{ty_of}
use Rattle.report.proofs.BoundLaws.{origin_width, report_width}
use Rattle.report.proofs.bound.line_width.Goals as goal

pub returns-then-origins : goal.returns-then-origins
returns-then-origins c = origin_width _ c.if-origins.true

pub overflow_add-result : goal.overflow_add-result
overflow_add-result c = omega (arith, c.width.ensures, (width_within (ty_of c.args.t)).1)

pub returns : goal.returns
returns c = search report_width
