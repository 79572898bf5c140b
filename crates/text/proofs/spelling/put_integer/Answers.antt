-- `put_integer` meets its contract. The sign, where there is one, and behind it the digits. Assumes nothing.
use Rattle.text.proofs.WrittenLaws.{room_minus, room_magnitude, puts_minus, room_plus, puts_plus}
use Rattle.text.proofs.spelling.put_integer.Goals as goal

pub put_byte-from-requires : goal.put_byte-from-requires
put_byte-from-requires c = search room_minus

pub put_number-requires : goal.put_number-requires
put_number-requires c = search room_magnitude

pub returns-then-biased-lt-ZERO : goal.returns-then-biased-lt-ZERO
returns-then-biased-lt-ZERO c = search puts_minus

pub put_number-requires-2 : goal.put_number-requires-2
put_number-requires-2 c = search room_plus

pub returns : goal.returns
returns c = search puts_plus
