-- Document 02, F-8: operations, order and spelling in cases, each of which a likely mistake gets wrong.
use Rattle.std.specs.Prelude.{◌≡◌, true, false, [], ◌∷◌, ℕ, pos, negsuc}
use Prim.Native.Nat.{Ordering}
use Rattle.reals.specs.Reals.{Number, int, real, held, kept, by_number, plus, minus, times, over, result, no_result, over_range, calculated, lesser}
use Rattle.reals.specs.Bits.{from_bits}
use Rattle.reals.specs.Digits.{hex_digits}
use Rattle.reals.specs.Spelling.{spell_real, Reading, reads, refused, read_real}
use Rattle.reals.specs.Words.{cell}

-- the Real with these bits
unfoldable pub real₀ : ℕ → Number
real₀ b = real (from_bits b)

unfoldable pub half : Number
half = real₀ 0x3fe0_0000_0000_0000

unfoldable pub one_and_half : Number
one_and_half = real₀ 0x3ff8_0000_0000_0000

unfoldable pub minus_one_and_half : Number
minus_one_and_half = real₀ 0xbff8_0000_0000_0000

-- 2^53
unfoldable pub digits53 : Number
digits53 = real₀ 0x4340_0000_0000_0000

-- the smallest number above zero, and the largest of all
unfoldable pub smallest : Number
smallest = real₀ 1

unfoldable pub largest : Number
largest = real₀ 0x7fef_ffff_ffff_ffff

-- `r`, 3, this byte, and fourteen digits
unfoldable pub with_byte : ℕ → Reading
with_byte c = read_real (114 ∷ 51 ∷ c ∷ hex_digits 14 0xf8_0000_0000_0001)

pub record Cases : Type 0 where
  -- to nearest: 1 over 3 goes down, 1 over 10 up; 0.1 plus 0.2 is no 0.3
  pub third : calculated over (int (pos 1)) (int (pos 3)) ≡ result (real₀ 0x3fd5_5555_5555_5555)
  pub tenth : calculated over (int (pos 1)) (int (pos 10)) ≡ result (real₀ 0x3fb9_9999_9999_999a)
  pub tenths : calculated plus (real₀ 0x3fb9_9999_9999_999a) (real₀ 0x3fc9_9999_9999_999a) ≡ result (real₀ 0x3fd3_3333_3333_3334)
  -- the sign is that of the larger
  pub minus_half : calculated minus (int (pos 1)) one_and_half ≡ result (real₀ 0xbfe0_0000_0000_0000)
  -- ties to even: 2^53 plus 1 goes down, plus 3 up; one digit below, a half is carried up to 2^53
  pub tie_down : calculated plus digits53 (int (pos 1)) ≡ result digits53
  pub tie_up : calculated plus digits53 (int (pos 3)) ≡ result (real₀ 0x4340_0000_0000_0002)
  pub carry : calculated plus (real₀ 0x433f_ffff_ffff_ffff) half ≡ result digits53
  -- subnormal numbers: half the smallest is a tie with 0, three halves of it are two; below the least normal number there are others
  pub vanishes : calculated over smallest (int (pos 2)) ≡ result (int (pos 0))
  pub stays : calculated over (real₀ 3) (int (pos 2)) ≡ result (real₀ 2)
  pub subnormal : calculated minus (real₀ 0x0010_0000_0000_0000) smallest ≡ result (real₀ 0x000f_ffff_ffff_ffff)
  pub normal : calculated plus (real₀ 0x000f_ffff_ffff_ffff) smallest ≡ result (real₀ 0x0010_0000_0000_0000)
  -- minus zero is 0
  pub minus_vanishes : calculated over (real₀ 0x8000_0000_0000_0001) (int (pos 2)) ≡ result (int (pos 0))
  pub minus_zero : calculated times (int (pos 0)) (int (negsuc 0)) ≡ result (int (pos 0))
  pub minus_zero_held : held (from_bits 0x8000_0000_0000_0000) ≡ int (pos 0)
  -- infinite, on both sides: from half a step above the largest on, and not before
  pub doubled : calculated times largest (int (pos 2)) ≡ over_range
  pub doubled_below : calculated minus (real₀ 0xffef_ffff_ffff_ffff) largest ≡ over_range
  pub half_step : calculated plus largest (real₀ 0x7c90_0000_0000_0000) ≡ over_range
  pub under_half : calculated plus largest (real₀ 0x7c8f_ffff_ffff_ffff) ≡ result largest
  pub inverse : calculated over (int (pos 1)) smallest ≡ over_range
  -- whole results in the Integer range are Integers, and others are not
  pub one : calculated plus half half ≡ result (int (pos 1))
  pub three : calculated times one_and_half (int (pos 2)) ≡ result (int (pos 3))
  pub minus_two : calculated over (int (pos 6)) (int (negsuc 2)) ≡ result (int (negsuc 1))
  pub not_whole : calculated over (int (pos 3)) (int (pos 2)) ≡ result one_and_half
  pub past_greatest : calculated plus (int (pos 2147483647)) (int (pos 1)) ≡ result (real₀ 0x41e0_0000_0000_0000)
  pub least : calculated minus (int (negsuc 2147483646)) (int (pos 1)) ≡ result (int (negsuc 2147483647))
  pub past_least : calculated minus (int (negsuc 2147483647)) (int (pos 1)) ≡ result (real₀ 0xc1e0_0000_0020_0000)
  -- a zero divisor
  pub by_zero : calculated over one_and_half (int (pos 0)) ≡ no_result
  pub zero_by_zero : calculated over (int (pos 0)) (int (pos 0)) ≡ no_result
  -- by number, whatever the kind: -1.5, -1, just below 0, 0, 1, 1.5, 2
  pub one_less : lesser (int (pos 1)) one_and_half ≡ true
  pub two_not_less : lesser (int (pos 2)) one_and_half ≡ false
  pub minus_less : lesser (real₀ 0x8000_0000_0000_0001) (int (pos 0)) ≡ true
  pub minus_one_not_less : lesser (int (negsuc 0)) minus_one_and_half ≡ false
  pub minus_half_less : lesser minus_one_and_half (int (negsuc 0)) ≡ true
  pub one_not_less : lesser (int (pos 1)) minus_one_and_half ≡ false
  pub same_not_less : lesser one_and_half one_and_half ≡ false
  pub one_before : by_number (int (pos 1)) one_and_half ≡ Ordering.lt
  pub two_behind : by_number (int (pos 2)) one_and_half ≡ Ordering.gt
  pub minus_behind : by_number (int (negsuc 0)) minus_one_and_half ≡ Ordering.gt
  pub above_zero : by_number (int (pos 1)) minus_one_and_half ≡ Ordering.gt
  pub below-zero : by_number minus_one_and_half (int (pos 1)) ≡ Ordering.lt
  pub itself : by_number one_and_half one_and_half ≡ Ordering.eq
  -- the sixteen digits
  pub digits : hex_digits 16 0x0123_4567_89ab_cdef
      ≡ 48 ∷ 49 ∷ 50 ∷ 51 ∷ 52 ∷ 53 ∷ 54 ∷ 55 ∷ 56 ∷ 57 ∷ 97 ∷ 98 ∷ 99 ∷ 100 ∷ 101 ∷ 102 ∷ []
  pub letter_digit : with_byte 102 ≡ reads (from_bits 0x3ff8_0000_0000_0001)
  pub spelled : read_real (spell_real (from_bits 0xbff8_0000_0000_0000)) ≡ reads (from_bits 0xbff8_0000_0000_0000)
  -- 3: 1 and minus zero; `R`; a capital `F`, and the bytes beside the digits; fifteen digits, or seventeen, whatever they stand for
  pub whole_spelled : read_real (spell_real (from_bits 0x3ff0_0000_0000_0000)) ≡ refused 3
  pub minus_zero_spelled : read_real (spell_real (from_bits 0x8000_0000_0000_0000)) ≡ refused 3
  pub capital_r : read_real (82 ∷ hex_digits 16 0x3ff8_0000_0000_0000) ≡ refused 3
  pub capital_digit : with_byte 70 ≡ refused 3
  pub before_0 : with_byte 47 ≡ refused 3
  pub behind_9 : with_byte 58 ≡ refused 3
  pub before_a : with_byte 96 ≡ refused 3
  pub behind_f : with_byte 103 ≡ refused 3
  pub fifteen : read_real (114 ∷ hex_digits 15 0x7ff_8000_0000_0000) ≡ refused 3
  pub seventeen : read_real (114 ∷ 48 ∷ hex_digits 16 0x7ff8_0000_0000_0000) ≡ refused 3
  -- 4: infinities, and a NaN
  pub infinity : read_real (114 ∷ hex_digits 16 0x7ff0_0000_0000_0000) ≡ refused 4
  pub minus_infinity : read_real (114 ∷ hex_digits 16 0xfff0_0000_0000_0000) ≡ refused 4
  pub no_number : read_real (114 ∷ hex_digits 16 0x7ff8_0000_0000_0001) ≡ refused 4
  -- the range's ends are Integers, the numbers beyond them Reals
  pub greatest_spelled : read_real (spell_real (from_bits 0x41df_ffff_ffc0_0000)) ≡ refused 3
  pub past_greatest_spelled : read_real (spell_real (from_bits 0x41e0_0000_0000_0000)) ≡ reads (from_bits 0x41e0_0000_0000_0000)
  pub largest_spelled : read_real (spell_real (from_bits 0x7fef_ffff_ffff_ffff)) ≡ reads (from_bits 0x7fef_ffff_ffff_ffff)
  pub least_spelled : read_real (spell_real (from_bits 0xc1e0_0000_0000_0000)) ≡ refused 3
  -- what a value may hold: no Integer out of range, no infinity, no Real that is an Integer
  pub keeps_half : kept half ≡ true
  pub keeps_least : kept (int (negsuc 2147483647)) ≡ true
  pub keeps_range : kept (int (pos 2147483648)) ≡ false
  pub keeps_finite : kept (real₀ 0x7ff0_0000_0000_0000) ≡ false
  pub keeps_integers : kept (real₀ 0x3ff0_0000_0000_0000) ≡ false
  -- words: 0 has that in the middle, and the next to it are those of the smallest numbers
  pub word_zero : cell (int (pos 0)) ≡ 0x8000_0000_0000_0000
  pub word_above : cell smallest ≡ 0x8000_0000_0000_0001
  pub word_below : cell (real₀ 0x8000_0000_0000_0001) ≡ 0x7fff_ffff_ffff_ffff
  pub word_one : cell (int (pos 1)) ≡ 0xbff0_0000_0000_0000
