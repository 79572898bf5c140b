-- `replay::value::is_value` meets its contract. Assumes nothing.
use borrow.Author.Tests.{eq-eqb}
use Rattle.replay.proofs.ValueLaws.{not_long, no_value, one_value}
use Rattle.replay.proofs.value.is_value.Goals as goal

pub returns-then-cells-gt-LARGEST : goal.returns-then-cells-gt-LARGEST
returns-then-cells-gt-LARGEST c = search not_long

pub returns-then-end-ne0 : goal.returns-then-end-ne0
returns-then-end-ne0 c = search one_value

pub returns-else-end-ne0 : goal.returns-else-end-ne0
returns-else-end-ne0 c = rw (eq-eqb _ 0 c.if-end-ne0.false) (no_value c.if-cells-gt-LARGEST.false c.value_end-end.ensures c.if-end-ne0.false)
