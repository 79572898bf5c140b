-- `put_simple` meets its contract. Assumes nothing.
use mathlib.Core.Path.{ap}
use native.Mathlib.Omega.{arith}
use lib.ListN.{length}
use Rattle.text.proofs.WrittenLaws.{puts_as, puts_then}
use Rattle.spelling.proofs.LeafLaws.{bool_room, integer_room, real_room, object_room, bool_puts, integer_puts, real_puts, object_puts}
use Rattle.spelling.proofs.put_simple.Goals as goal

pub put_byte-requires : goal.put_byte-requires
put_byte-requires c = omega (arith, bool_room c.requires c.in-Bool.is, ap length c.truth_byte.ensures)

pub put_integer-requires : goal.put_integer-requires
put_integer-requires c = search integer_room

pub put_real-requires : goal.put_real-requires
put_real-requires c = real_room c.requires c.in-Real.is

pub put_byte-digits-requires : goal.put_byte-digits-requires
put_byte-digits-requires c = omega (arith, object_room c.requires c.in-Object.is)

pub put_number-requires : goal.put_number-requires
put_number-requires c = omega (arith, object_room c.requires c.in-Object.is, c.put_byte-digits.ensures.end, c.put_byte-digits.auto.out)

pub returns-in-Bool : goal.returns-in-Bool
returns-in-Bool c = search (bool_puts, puts_as)

pub returns-in-Integer : goal.returns-in-Integer
returns-in-Integer c = search integer_puts

pub returns-in-Real : goal.returns-in-Real
returns-in-Real c = search real_puts

pub returns-in-Object : goal.returns-in-Object
returns-in-Object c = object_puts c.in-Object.is (puts_then c.put_byte-digits.ensures c.put_number.ensures (omega (arith, object_room c.requires c.in-Object.is)))
