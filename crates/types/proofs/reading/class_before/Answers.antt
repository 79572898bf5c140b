-- `class_before` meets its contract.
use native.Mathlib.Omega.{arith}
use mathlib.Core.Path.{sym, ◌∙◌}
use lib.Seq.{length-take-le}
use Rattle.types.proofs.TypeFields.{class_short, class_off, class_on}
use Rattle.types.proofs.reading.class_before.Goals as goal

pub returns-then-s-d : goal.returns-then-s-d
returns-then-s-d c = class_short _ _ c.if-s-d.true

pub slice_bounds-number-end : goal.slice_bounds-number-end
slice_bounds-number-end c = sym (length-take-le _ _ (omega arith))

pub returns-then-closes : goal.returns-then-closes
returns-then-closes c = class_on _ c.args.s.now c.class_of.result (sym c.if-closes.true ∙ c.closes.ensures) c.number.ensures c.class_of.ensures

pub returns : goal.returns
returns c = class_off _ c.args.s.now (sym c.if-closes.false ∙ c.closes.ensures)
