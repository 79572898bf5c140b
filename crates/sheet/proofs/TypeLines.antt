-- The spellings of numbers and types hold no tab and no line feed, so that types written one a line are lines, and fields are fields.
-- Assumes nothing.
use mathlib.Core.Logic.{◌≢◌}
use mathlib.Core.List.{[], ◌∷◌}
use Prim.Native.Nat.{ℕ, zero, suc, ◌+◌, ◌/◌, ◌%◌, ◌<◌, ◌≤◌}
use native.Mathlib.Omega.{arith}
use lib.IntN.{ℤ, pos, negsuc}
use lib.Dec.{T, ltb, ltb→lt, leb, leb→le}
use Rattle.laws.specs.Lists.{all_of, Each, each_nil, each-cons}
use Rattle.laws.proofs.Lists.{each_imp, each_append}
use Rattle.laws.proofs.Tests.{and_l, and_r, by-if}
use Rattle.reals.specs.Reals.{Real}
use Rattle.reals.specs.Bits.{bits}
use Rattle.reals.specs.Digits.{hex_byte, hex_digits}
use Rattle.reals.specs.Spelling.{spell_real}
use Rattle.ocl.specs.Types.{Simple, any, boolean, integer, class, set, sequence, bag, Letter, collection, exactly, Ty, void, simple, around, real}
use Rattle.sheet.specs.Text.{Bytes, byte, bytes, is_digit, spell_number, spell_integer}
use Rattle.sheet.specs.Spelling.{letter_byte, spell_simple, spell_type}
use Rattle.sheet.proofs.Numbers.{decimal}

-- every byte is above the separators'
abbrev pub High : Bytes → Type 0
High = Each (λ b. 10 < b)

-- a text, by computation
pub high : (s : Bytes) → T (all_of (ltb 10) s) → High s
unfolding all_of
high [] h = each_nil
high (b ∷ s) h = each-cons (ltb→lt 10 b (and_l (ltb 10 b) _ h)) (high s (and_r (ltb 10 b) _ h))

digit_high : (b : ℕ) → T (is_digit b) → 10 < b
unfolding is_digit
digit_high b h = omega (arith, leb→le 48 b (and_l (leb 48 b) _ h))

pub number_high : (n : ℕ) → High (spell_number n)
number_high n = each_imp digit_high (decimal n).all_digits

pub integer_high : (z : ℤ) → High (spell_integer z)
unfolding spell_integer
integer_high (pos n) = number_high n
integer_high (negsuc n) = each-cons {n = byte "-"} (omega arith) (number_high (suc n))

hex_high : (k n : ℕ) → High (hex_digits k n)
unfolding hex_digits hex_byte
hex_high zero n = each_nil
hex_high (suc k) n =
    each_append (hex_high k (n / 16)) (each-cons (by-if (λ c. 10 < c) (ltb (n % 16) 10) (48 + n % 16) (87 + n % 16) (λ t. omega arith) (λ t. omega arith)) each_nil)

pub real_high : (r : Real) → High (spell_real r)
unfolding spell_real
real_high r = each-cons {n = byte "r"} (omega arith) (hex_high 16 (bits r))

pub letter_high : (l : Letter) → 10 < letter_byte l
unfolding letter_byte
letter_high collection = omega arith
letter_high (exactly set) = omega arith
letter_high (exactly sequence) = omega arith
letter_high (exactly bag) = omega arith

simple_high : (a : Simple) → High (spell_simple a)
unfolding spell_simple bytes all_of
simple_high any = high (bytes "Any") tt
simple_high boolean = high (bytes "Bool") tt
simple_high integer = high (bytes "Int") tt
simple_high real = high (bytes "Real") tt
simple_high (class c) = each-cons {n = byte "#"} (omega arith) (number_high c)

pub type_high : (t : Ty) → High (spell_type t)
unfolding spell_type bytes all_of
type_high void = high (bytes "Void") tt
type_high (simple a) = simple_high a
type_high (around l t) = each-cons (letter_high l) (each-cons {n = byte "("} (omega arith) (each_append (type_high t) (high (bytes ")") tt)))

-- so none is a separator
pub apart_from : (sep : ℕ) → sep ≤ 10 → {s : Bytes} → High s → Each (λ b. b ≢ sep) s
apart_from sep l h = each_imp (λ b k e. omega arith) h

pub type_line : (t : Ty) → Each (λ b. b ≢ 10) (spell_type t)
type_line t = apart_from 10 (omega arith) (type_high t)
