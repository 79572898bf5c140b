-- Decimal numbers and Integers as the code has them: a number saturates at a bound above every limit, an Integer is a natural number.
-- proofs/NumberLaws.antt ties them to crates/sheet's `number_parser` and `integer_parser`, and shows that no test can tell the difference.
use Rattle.std.specs.Prelude.{ℕ, zero, suc, ◌+◌, ◌≤◌, min, ◌≡◌, [], ◌∷◌, ℤ, pos, negsuc, length, drop, eqb, Option as Optional, Some, None, Result, Ok, Err}
use Rattle.std.proofs.Math.Option.{Option, none, some}
use Rattle.laws.specs.Choice.{on_some}
use Rattle.std.specs.Prelude.{if◌then◌else◌}
use Rattle.laws.specs.Integers.{bias}
use Rattle.reals.specs.Reals.{in_range}
use Rattle.sheet.specs.Text.{Bytes, byte, digits, plain, value_of_digits}
use Rattle.text.specs.declared.numbers.Digits.{Digits}
use Rattle.memory.specs.declared.refusals.Misread.{Misread}
use Rattle.memory.specs.declared.refusals.Misread.TheVariants.{Malformed, OverLimit}

-- ---- numbers

-- a million: every limit of document 01 on such a number is lower
abbrev pub number_cut : ℕ
number_cut = 1000000

abbrev pub cut : ℕ → ℕ
cut n = min n number_cut

-- no Integer of the range has as many digits
abbrev pub digits_cut : ℕ
digits_cut = 10000000000

unfoldable pub cut_num : Option ℕ → Optional ℕ
cut_num none = None
cut_num (some n) = Some (cut n)

-- the number in front of a text: what crates/sheet's `number_parser` reads
unfoldable pub leading : Bytes → Option ℕ
leading s = if plain (digits s) then some (value_of_digits 0 (digits s)) else none

-- the digits from `at` on end at r
pub record DigitsEnd (s : Bytes) (at r : ℕ) : Type 0 where
  pub is : r ≡ at + length (digits (drop at s))
  pub within : r ≤ length s

-- the digits from `at` on, and the number they stand for, which saturates above every Integer of the range
pub record DigitsRead (s : Bytes) (at : ℕ) (r : Digits) : Type 0 where
  pub ends : DigitsEnd s at r.end
  pub value : r.value ≡ min (value_of_digits 0 (digits (drop at s))) digits_cut

-- ---- Integers

unfoldable pub whole_of : Option ℤ → Result ℕ Misread
whole_of none = Err Malformed
whole_of (some z) = if in_range z then Ok (bias z) else Err OverLimit

-- how many minus signs stand in front: at most one counts
unfoldable pub minus_at : Bytes → ℕ
minus_at [] = 0
minus_at (b ∷ s) = if eqb (byte "-") b then 1 else 0

-- the Integer by its minus signs and its digits' number; there is no -0
unfoldable pub signed : ℕ → ℕ → Option ℤ
signed zero n = some (pos n)
signed (suc m) zero = none
signed (suc m) (suc n) = some (negsuc n)

-- the Integer in front of a text: what crates/sheet's `integer_parser` reads
unfoldable pub leading_integer : Bytes → Option ℤ
leading_integer s = on_some (leading (drop (minus_at s) s)) (signed (minus_at s))

-- the Integer from `at` on ends at r
pub record IntegerEnd (s : Bytes) (at r : ℕ) : Type 0 where
  pub digits : DigitsEnd s (at + minus_at (drop at s)) r

-- its digits, and what they stand for
pub record IntegerRead (s : Bytes) (at : ℕ) (r : Digits) : Type 0 where
  pub ends : IntegerEnd s at r.end
  pub value : r.value ≡ min (value_of_digits 0 (digits (drop (at + minus_at (drop at s)) s))) digits_cut
