-- `real_of` meets its contract. Assumes nothing.
use Rattle.floats.proofs.Reading.{bits_over, bits_number, bits_small, bits_int, bits_real}
use Rattle.floats.proofs.spelling.real_of.Goals as goal

pub returns-then-without_sign-ge-INFINITE : goal.returns-then-without_sign-ge-INFINITE
returns-then-without_sign-ge-INFINITE c = search bits_over

pub float_from_bits-x : goal.float_from_bits-x
float_from_bits-x c = search bits_number

pub hold-requires : goal.hold-requires
hold-requires c = search bits_small

pub returns-in-Integer : goal.returns-in-Integer
returns-in-Integer c = search bits_int

pub returns-in-Real : goal.returns-in-Real
returns-in-Real c = search bits_real
