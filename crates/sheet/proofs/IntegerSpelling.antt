-- Numbers and Integers are read back as they are written. Assumes nothing.
use mathlib.Core.List.{[], ◌∷◌}
use Prim.Native.Nat.{ℕ, suc, ◌≤◌, ◌<◌}
use native.Mathlib.Omega.{arith}
use lib.IntN.{ℤ, pos, negsuc}
use lib.ListN.{length}
use lib.Dec.{T}
use Rattle.laws.specs.Choice.{on_some}
use Rattle.laws.specs.Lists.{Each, each_nil, each-cons}
use Rattle.sheet.specs.Text.{Bytes, bytes, ◌then◌, is_digit, number_parser, negative, integer_parser, spell_number, spell_integer}
use Rattle.sheet.proofs.Numbers.{digit_from, digit_to, spell_digits_lem, digits_some, number_back}
use Rattle.sheet.proofs.Parsers.{Reads, Begins, begins, begins_imp, other_byte, behind_reads, behind_misses, first_reads, second_reads, mapped_reads}

pub number_reads : (n : ℕ) → Reads number_parser (spell_number n) n
number_reads n = record { read = number_back n }

-- a digit is first
number_begins : (n : ℕ) → Begins (λ b. T (is_digit b)) (spell_number n)
number_begins n = first (spell_number n) (spell_digits_lem n) (digits_some n)
  where
    first : (d : Bytes) → Each (λ b. T (is_digit b)) d → 1 ≤ length d → Begins (λ b. T (is_digit b)) d
    first [] each_nil h = absurd (omega arith)
    first (b ∷ d) (each-cons t ts) h = begins t

-- a digit, or the sign
pub integer_begins : (z : ℤ) → Begins (λ b. (44 < b) × (b < 58)) (spell_integer z)
unfolding spell_integer
integer_begins (pos n) = begins_imp (λ b t. let p = digit_from b t in let q = digit_to b t in (omega arith, omega arith)) (number_begins n)
integer_begins (negsuc n) = begins {b = 45} (omega arith, omega arith)

negative_reads : (n : ℕ) → Reads (number_parser then negative) (spell_number (suc n)) (negsuc n)
unfolding ◌then◌ on_some negative
negative_reads n = record { read = λ rest st. rw (number_back (suc n) rest st) }

pub integer_reads : (z : ℤ) → Reads integer_parser (spell_integer z) z
unfolding integer_parser spell_integer bytes
integer_reads (pos n) =
    second_reads (behind_misses "-" _ (spell_number n) (λ rest. other_byte [] rest (begins_imp (λ b t e. let p = digit_from b t in omega arith) (number_begins n))))
    (mapped_reads pos (number_reads n))
integer_reads (negsuc n) = first_reads _ (behind_reads "-" (negative_reads n))
