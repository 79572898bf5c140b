-- The cases, by computation. Assumes nothing.
use mathlib.Core.Path.{refl}
use Rattle.laws.specs.Choice.{on_some}
use Rattle.reals.specs.Reals.{half_to_even, nearest_whole, halvings, exponent, carried, rounded, sum, add, subtract, differ, multiply, divide, is_zero, less_by, less, in_range, signed, held_as, held, is_real, is_binary64, kept, of_units, widened, widen, units, order_int, by_number, settled, operate, calculated, lesser}
use Rattle.reals.specs.Bits.{rank, bits, from_fields, from_bits}
use Rattle.reals.specs.Digits.{hex_byte, hex_digits, hex_digit, hex_number}
use Rattle.reals.specs.Spelling.{spell_real, held_as_real, finite_real, of_digits, read_real}
use Rattle.reals.specs.Words.{word, key, cell}
use Rattle.reals.specs.Cases.{real₀, half, one_and_half, minus_one_and_half, digits53, smallest, largest, with_byte, Cases}

pub cases : Cases
unfolding on_some half_to_even nearest_whole halvings exponent carried rounded sum add subtract differ multiply divide is_zero less_by less in_range signed held_as held is_real is_binary64 kept of_units widened widen units order_int by_number settled operate calculated lesser rank bits from_fields from_bits hex_byte hex_digits hex_digit hex_number spell_real held_as_real finite_real of_digits read_real word key cell real₀ half one_and_half minus_one_and_half digits53 smallest largest with_byte
cases = record {
  third = refl;
  tenth = refl;
  tenths = refl;
  minus_half = refl;
  tie_down = refl;
  tie_up = refl;
  carry = refl;
  vanishes = refl;
  stays = refl;
  subnormal = refl;
  normal = refl;
  minus_vanishes = refl;
  minus_zero = refl;
  minus_zero_held = refl;
  doubled = refl;
  doubled_below = refl;
  half_step = refl;
  under_half = refl;
  inverse = refl;
  one = refl;
  three = refl;
  minus_two = refl;
  not_whole = refl;
  past_greatest = refl;
  least = refl;
  past_least = refl;
  by_zero = refl;
  zero_by_zero = refl;
  one_less = refl;
  two_not_less = refl;
  minus_less = refl;
  minus_one_not_less = refl;
  minus_half_less = refl;
  one_not_less = refl;
  same_not_less = refl;
  one_before = refl;
  two_behind = refl;
  minus_behind = refl;
  above_zero = refl;
  below-zero = refl;
  itself = refl;
  digits = refl;
  letter_digit = refl;
  spelled = refl;
  whole_spelled = refl;
  minus_zero_spelled = refl;
  capital_r = refl;
  capital_digit = refl;
  before_0 = refl;
  behind_9 = refl;
  before_a = refl;
  behind_f = refl;
  fifteen = refl;
  seventeen = refl;
  infinity = refl;
  minus_infinity = refl;
  no_number = refl;
  greatest_spelled = refl;
  past_greatest_spelled = refl;
  largest_spelled = refl;
  least_spelled = refl;
  keeps_half = refl;
  keeps_least = refl;
  keeps_range = refl;
  keeps_finite = refl;
  keeps_integers = refl;
  word_zero = refl;
  word_above = refl;
  word_below = refl;
  word_one = refl;
}
