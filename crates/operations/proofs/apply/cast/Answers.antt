-- `operations::apply::cast` meets its contract. Assumes nothing.
use Rattle.operations.proofs.OperationLaws.{cast_stuck, cast_other, cast_in, cast_out}
use Rattle.operations.proofs.apply.cast.Goals as goal

pub returns-then-sort-gt-OBJECT : goal.returns-then-sort-gt-OBJECT
returns-then-sort-gt-OBJECT c = cast_stuck _ c.sort_of-sort.ensures c.if-sort-gt-OBJECT.true

pub returns-then-sort-lt-OBJECT : goal.returns-then-sort-lt-OBJECT
returns-then-sort-lt-OBJECT c = cast_other _ c.sort_of-sort.ensures c.if-sort-lt-OBJECT.true

pub returns-then-is_a : goal.returns-then-is_a
returns-then-is_a c = cast_in _ c.sort_of-sort.ensures c.payload_of.ensures c.is_a.ensures c.if-sort-gt-OBJECT.false c.if-sort-lt-OBJECT.false c.if-is_a.true c.requires.2 c.requires.3

pub returns-else-is_a : goal.returns-else-is_a
returns-else-is_a c = cast_out _ c.sort_of-sort.ensures c.payload_of.ensures c.is_a.ensures c.if-sort-gt-OBJECT.false c.if-sort-lt-OBJECT.false c.if-is_a.false
