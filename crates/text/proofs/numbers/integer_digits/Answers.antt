-- `integer_digits` meets its contract. They are the digits behind the sign. Assumes nothing.
use native.Mathlib.Omega.{arith}
use Rattle.text.proofs.IntegerLaws.{minus_room, digits_behind}
use Rattle.text.proofs.numbers.integer_digits.Goals as goal

pub overflow_add-from : goal.overflow_add-from
overflow_add-from c = omega (arith, minus_room _ c.requires c.minus_at.ensures)

pub digits_at-requires : goal.digits_at-requires
digits_at-requires c = search minus_room

pub returns : goal.returns
returns c = search digits_behind
