-- What makes the definitions believable. proofs/ has the proofs.
use Rattle.std.specs.Prelude.{◌≡◌, ◌⊎◌, ◌↔◌, Bool, not, List, length, ℤ, T}
use Rattle.std.proofs.Math.Option.{some, none}
use Prim.Native.Nat.{ℕ, ◌+◌, ◌-◌, ◌*◌, ◌%◌, ◌^◌, ◌≤◌, ◌<◌, compare}
use Rattle.std.specs.Float.Ieee as Ieee
use Rattle.std.specs.Float.{binary64}
use Rattle.reals.specs.Reals.{Real, binary, is_binary64, rounded, add, subtract, multiply, divide, is_zero, less, Number, int, real, in_range, held, widened, widen, kept, units, order_int, by_number, is_less, Operation, result, calculated, lesser}
use Rattle.reals.specs.Bits.{bits, from_bits}
use Rattle.reals.specs.Digits.{hex_digits, hex_number}
use Rattle.reals.specs.Spelling.{spell_real, reads, read_real}
use Rattle.reals.specs.Words.{cell, number_in}
use Rattle.reals.specs.Floats.{f64_of, Gives}

-- ---- rounding

unfoldable pub sign_of : Real → Bool
sign_of (binary s m e) = s

unfoldable pub significand_of : Real → ℕ
significand_of (binary s m e) = m

-- its units, without the sign
unfoldable pub magnitude : Real → ℕ
magnitude (binary s m e) = m * 2 ^ e

-- how far apart two numbers are
unfoldable pub gap : ℕ → ℕ → ℕ
gap a b = (a - b) + (b - a)

-- r is what n / d units are rounded to, and x any other: x is not nearer, and where it is as near, r has the even significand
pub record Nearest (s : Bool) (n d : ℕ) (r x : Real) : Type 0 where
  pub sign : sign_of r ≡ s
  pub near : gap n (magnitude r * d) ≤ gap n (magnitude x * d)
  pub tie : gap n (magnitude r * d) ≡ gap n (magnitude x * d) → (magnitude r ≡ magnitude x) ⊎ (significand_of r % 2 ≡ 0)

pub record RoundingLaws : Type 0 where
  -- the result is a binary64 number, and no binary64 number is nearer
  pub finite : (s : Bool) (n d : ℕ) (r : Real) → 0 < d → rounded s n d ≡ some r → T (is_binary64 r)
  pub nearest : (s : Bool) (n d : ℕ) (r x : Real) → 0 < d → rounded s n d ≡ some r → T (is_binary64 x) → Nearest s n d r x
  -- it is infinite exactly from the middle between the largest number, (2^53 - 1) · 2^2045 units, and 2^1024 on
  pub infinite : (s : Bool) (n d : ℕ) → 0 < d → (rounded s n d ≡ none) ↔ ((2 ^ 54 - 1) * 2 ^ 2044 * d ≤ n)

-- ---- the toolchain's f64

-- each operator on finite operands gives the definition's result, bit for bit
pub record FloatLaws : Type 0 where
  pub plus : (x y : Real) → T (is_binary64 x) → T (is_binary64 y) → Gives (Ieee.add binary64 (f64_of x) (f64_of y)) (add x y)
  pub minus : (x y : Real) → T (is_binary64 x) → T (is_binary64 y) → Gives (Ieee.sub binary64 (f64_of x) (f64_of y)) (subtract x y)
  pub times : (x y : Real) → T (is_binary64 x) → T (is_binary64 y) → Gives (Ieee.mul binary64 (f64_of x) (f64_of y)) (multiply x y)
  pub over : (x y : Real) → T (is_binary64 x) → T (is_binary64 y) → T (not (is_zero y)) → Gives (Ieee.div binary64 (f64_of x) (f64_of y)) (divide x y)
  pub below : (x y : Real) → T (is_binary64 x) → T (is_binary64 y) → Ieee.lt (f64_of x) (f64_of y) ≡ less x y
  pub cast : (z : ℤ) → T (in_range z) → Ieee.of_int binary64 z ≡ f64_of (widened z)

-- ---- numbers

pub record NumberLaws : Type 0 where
  -- widening loses nothing
  pub widen_binary64 : (x : Number) → T (kept x) → T (is_binary64 (widen x))
  pub widen_units : (x : Number) → T (kept x) → units x ≡ units (real (widen x))
  pub widen_back : (x : Number) → T (kept x) → held (widen x) ≡ x
  -- no two are the same by number
  pub apart : (x y : Number) → T (kept x) → T (kept y) → units x ≡ units y → x ≡ y
  -- `less` is their order, and the order of Integers is as it was
  pub less_order : (x y : Number) → T (kept x) → T (kept y) → lesser x y ≡ is_less (by_number x y)
  pub integers : (x y : ℤ) → by_number (int x) (int y) ≡ order_int x y
  -- what an operation comes to is kept, whatever its operands
  pub results : (op : Operation) (x y n : Number) → calculated op x y ≡ result n → T (kept n)

-- each number has its own word; words are in the order of their numbers, and leave room on both sides for other values
pub record WordLaws : Type 0 where
  pub order : (x y : Number) → T (kept x) → T (kept y) → compare (cell x) (cell y) ≡ by_number x y
  pub injective : (x y : Number) → T (kept x) → T (kept y) → cell x ≡ cell y → x ≡ y
  pub room : (x : Number) → T (kept x) → (2 ^ 52 < cell x) × (cell x < 2 ^ 64 - 2 ^ 52)
  -- every word in between is a number's
  pub back : (x : Number) → T (kept x) → number_in (cell x) ≡ x
  pub onto : (w : ℕ) → 2 ^ 52 < w → w < 2 ^ 64 - 2 ^ 52 → cell (number_in w) ≡ w
  pub kept_all : (w : ℕ) → T (kept (number_in w))

-- ---- bits, digits, spelling

-- each Real has its own bits, and each 64 bits are one's; those of an infinity or a NaN are no binary64 number's
pub record BitLaws : Type 0 where
  pub back : (r : Real) → T (is_binary64 r) → (bits r < 2 ^ 64) × (from_bits (bits r) ≡ r)
  pub all : (b : ℕ) → b < 2 ^ 64 → bits (from_bits b) ≡ b
  pub finite : (b : ℕ) → (T (is_binary64 (from_bits b))) ↔ (b % 2 ^ 63 < 2047 * 2 ^ 52)

-- sixteen digits are read back, and no others are read so
pub record DigitLaws : Type 0 where
  pub back : (b : ℕ) → b < 2 ^ 64 → hex_number 0 (hex_digits 16 b) ≡ some b
  pub only : (s : List ℕ) (b : ℕ) → length s ≡ 16 → hex_number 0 s ≡ some b → (b < 2 ^ 64) × (s ≡ hex_digits 16 b)

-- a Real that a value may hold has exactly one spelling, and no other Real is read
pub record SpellingLaws : Type 0 where
  pub back : (r : Real) → T (kept (real r)) → read_real (spell_real r) ≡ reads r
  pub only : (s : List ℕ) (r : Real) → read_real s ≡ reads r → T (kept (real r)) × (s ≡ spell_real r)
