-- Rows as bits: no row, one row, the rows of two words. Assumes nothing.
use mathlib.Core.Path.{◌≡◌, refl, ap, ◌∙◌}
use mathlib.Core.Bool.{false, ◌||◌, or-false}
use mathlib.Core.List.{[], ◌∷◌}
use Prim.Native.Nat.{ℕ, zero, suc, ◌+◌, ◌-◌, ◌/◌, ◌%◌, ◌^◌, ◌<◌, max}
use native.Mathlib.Omega.{arith}
use native.Mathlib.Nat.{zero-div, div-eq_of_lt, pow-suc}
use native.Mathlib.Decide.{dec_lt}
use lib.Bits.{bit_or, or_shr, or_step}
use lib.Dec.{eqb}
use lib.Pow.{pow-add, pow-lt, shl-shr}
use borrow.Author.Tests.{eq-eqb, ne_eqb}
use Rattle.laws.specs.Lists.{member}
use Rattle.rows.specs.Bits.{bit, Bits}

pub no_bit : (i : ℕ) → bit 0 i ≡ false
unfolding bit
no_bit i = rw (zero-div (2 ^ i))

pub no_bits : Bits 0 []
unfolding member
no_bits = record { is = no_bit }

-- ---- one row

higher : (i d : ℕ) → 2 ^ (d + i) / 2 ^ i ≡ 2 ^ d
higher i d = ap (λ (x : ℕ). x / 2 ^ i) (pow-add 2 d i) ∙ shl-shr (2 ^ d) i

odd_only : (d : ℕ) → eqb (2 ^ d % 2) 1 ≡ eqb d 0
odd_only zero = refl
odd_only (suc d) =
    let e : 2 ^ suc d % 2 ≡ 0 = omega (arith, pow-suc 2 d) in
    rw (e, ne_eqb (suc d) 0 (λ q. omega arith))

pub one_bit : (k i : ℕ) → bit (2 ^ k) i ≡ eqb i k
unfolding bit
one_bit k i = by (dec_lt k i)
  where
    by : Dec (k < i) → eqb (2 ^ k / 2 ^ i % 2) 1 ≡ eqb i k
    by (yes h) = rw (div-eq_of_lt (pow-lt h), ne_eqb i k (λ e. omega arith))
    by (no h) =
        let e : k ≡ k - i + i = omega arith in
        ap (λ (x : ℕ). eqb (2 ^ x / 2 ^ i % 2) 1) e ∙ rw (higher i (k - i)) (odd_only (k - i) ∙ same (dec_lt 0 (k - i)))
      where
        same : Dec (0 < k - i) → eqb (k - i) 0 ≡ eqb i k
        same (yes l) = rw (ne_eqb (k - i) 0 (λ e. omega arith), ne_eqb i k (λ e. omega arith))
        same (no l) = rw (eq-eqb (k - i) 0 (omega arith), eq-eqb i k (omega arith))

pub row_bits : (k : ℕ) → Bits (2 ^ k) (k ∷ [])
unfolding member
row_bits k = record { is = λ i. one_bit k i ∙ rw (or-false (eqb i k)) }

-- ---- the rows of both

max_test : (p q : ℕ) → p < 2 → q < 2 → eqb (max p q) 1 ≡ eqb p 1 || eqb q 1
max_test zero zero h l = refl
max_test zero (suc zero) h l = refl
max_test zero (suc (suc q)) h l = absurd (omega arith)
max_test (suc zero) zero h l = refl
max_test (suc zero) (suc zero) h l = refl
max_test (suc zero) (suc (suc q)) h l = absurd (omega arith)
max_test (suc (suc p)) q h l = absurd (omega arith)

pub or_bit : (a b i : ℕ) → bit (bit_or a b) i ≡ bit a i || bit b i
unfolding bit
or_bit a b i =
    let x = a / 2 ^ i in
    let y = b / 2 ^ i in
    let e : bit_or x y % 2 ≡ max (x % 2) (y % 2) = omega (arith, or_step x y) in
    rw (or_shr a b i, e) (max_test (x % 2) (y % 2) (omega arith) (omega arith))
