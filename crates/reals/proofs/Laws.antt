-- The statements of specs/Laws.antt, gathered. Assumes nothing.
use Rattle.reals.specs.Laws.{RoundingLaws, FloatLaws, NumberLaws, WordLaws, BitLaws}
use Rattle.reals.proofs.Rounding.{rounded_binary64}
use Rattle.reals.proofs.Nearest.{rounded_nearest}
use Rattle.reals.proofs.Overflow.{infinite_from_half}
use Rattle.reals.proofs.Operators.{add_is, subtract_is, multiply_is, divide_is, less_is}
use Rattle.reals.proofs.Widening.{widened_float, held_widen, widen_binary64}
use Rattle.reals.proofs.Words.{units_widen, units_apart, cell_number, cell_injective, cell_room}
use Rattle.reals.proofs.Onto.{number_back, word_onto, number_kept}
use Rattle.reals.proofs.Order.{less_order, order_integers}
use Rattle.reals.proofs.Keeping.{results_kept}
use Rattle.reals.proofs.Bits.{real_binary64, real_bits, bits_back, bits_below, binary64_low}

pub rounding_laws : RoundingLaws
rounding_laws = record { finite = rounded_binary64; nearest = rounded_nearest; infinite = infinite_from_half }

pub float_laws : FloatLaws
float_laws = record { plus = add_is; minus = subtract_is; times = multiply_is; over = divide_is; below = less_is; cast = widened_float }

pub number_laws : NumberLaws
number_laws = record {
  widen_binary64 = widen_binary64;
  widen_units = units_widen;
  widen_back = held_widen;
  apart = units_apart;
  less_order = less_order;
  integers = order_integers;
  results = results_kept;
}

pub word_laws : WordLaws
word_laws = record { order = cell_number; injective = cell_injective; room = cell_room; back = number_back; onto = word_onto; kept_all = number_kept }

pub bit_laws : BitLaws
bit_laws = record { back = λ r p. (bits_below r p, bits_back r p); all = real_bits; finite = λ b. (binary64_low b, real_binary64 b) }
