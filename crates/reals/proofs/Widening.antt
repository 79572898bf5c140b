-- Integers are widened without loss, and a Real that is an Integer is that Integer widened. Assumes nothing.
use mathlib.Core.Path.{◌≡◌, refl, sym, ap, ◌∙◌, subst}
use mathlib.Core.Logic.{◌⊎◌, inl, inr}
use mathlib.Core.Bool.{Bool, true, false, ◌&&◌}
use Prim.Native.Nat.{ℕ, suc, ◌+◌, ◌-◌, ◌*◌, ◌/◌, ◌%◌, ◌^◌, ◌≤◌, ◌<◌}
use native.Mathlib.Nat.{le_of_lt, lt_of_le_of_lt, mul-one, mul_assoc, mul_right_comm, mul-mod_left, mul-div_cancel, div-lt_iff_lt-mul, le-div_iff_mul-le}
use native.Mathlib.Omega.{arith}
use lib.IntN.{ℤ, pos, negsuc}
use lib.Dec.{T, eqb, ltb→lt}
use lib.Pow.{pow-add, pow_pos, shl_lt, shl-shr}
use lib.Ieee as Ieee
use lib.Ieee.{Float, nan, inf, fin, binary64, up, down}
use lib.Ieee.Exact.{HasValue}
use lib.Ieee.Fits.{round-fits}
use lib.Ieee.Back.{round_whole}
use Rattle.laws.proofs.Tests.{and_l, and_r, test_true}
use Rattle.reals.specs.Reals.{Real, binary, is_binary64, exponent, Number, int, real, signed, in_range, held_as, held, of_units, widened, widen, is_real, kept}
use Rattle.reals.specs.Floats.{f64_of}
use Rattle.reals.proofs.Full.{Full, full→binary64, pow_back}
use Rattle.reals.proofs.Floats.{the_float}
use Rattle.reals.proofs.Rounding.{exponent_halves}

abbrev U : ℕ
U = 2 ^ 1074

-- ---- whole numbers below 2^53, in units

module _ (n : ℕ) (h : n < 2 ^ 53) where
  abbrev a : ℕ
  a = n * U

  abbrev e : ℕ
  e = exponent a

  e_low : e ≤ 1074
  e_low = go (exponent_halves a).long
    where
      go : (e ≡ 0) ⊎ (2 ^ (52 + e) ≤ a) → e ≤ 1074
      go (inl z) = omega (arith, z)
      go (inr l) = let b = pow_back (52 + e) (53 + 1074) (lt_of_le_of_lt l (shl_lt 53 1074 h)) in omega (arith, b)

  pub whole_exact : a / 2 ^ e * 2 ^ e ≡ a
  whole_exact =
      let k = 1074 - e in
      let s : k + e ≡ 1074 = omega (arith, e_low) in
      let b : a ≡ n * 2 ^ k * 2 ^ e = ap (λ j. n * 2 ^ j) (sym s) ∙ ap (λ j. n * j) (pow-add 2 k e) ∙ sym (mul_assoc n (2 ^ k) (2 ^ e)) in
      ap (λ j. j / 2 ^ e * 2 ^ e) b ∙ ap (λ j. j * 2 ^ e) (shl-shr (n * 2 ^ k) e) ∙ sym b

  whole_full : Full (a / 2 ^ e) e
  whole_full = record {
    short = (div-lt_iff_lt-mul (pow_pos e)).1 (subst (λ k. a < k) (pow-add 2 53 e) (exponent_halves a).short);
    long = go (exponent_halves a).long;
  }
    where
      go : (e ≡ 0) ⊎ (2 ^ (52 + e) ≤ a) → (e ≡ 0) ⊎ (2 ^ 52 ≤ a / 2 ^ e)
      go (inl z) = inl z
      go (inr l) = inr ((le-div_iff_mul-le (pow_pos e)).1 (subst (λ k. k ≤ a) (pow-add 2 52 e) l))

  pub whole_binary64 : (s : Bool) → T (is_binary64 (of_units s a))
  unfolding of_units
  whole_binary64 s = full→binary64 s (a / 2 ^ e) e whole_full (omega (arith, e_low))

  -- the f64 with that value is the Real's
  pub whole_float : (s : Bool) → Ieee.round binary64 s n 1 ≡ f64_of (of_units s a)
  unfolding of_units
  whole_float s =
      the_float (Ieee.round binary64 s n 1) s (a / 2 ^ e) e whole_full (round-fits binary64 s n 1)
      (subst (λ k. HasValue (Ieee.round binary64 s n 1) s k U) (sym whole_exact) (scaled (Ieee.round binary64 s n 1) (round_whole binary64 s n (le_of_lt h))))
    where
      scaled : (x : Float) → HasValue x s n 1 → HasValue x s a U
      scaled nan v = absurd v
      scaled (inf t) v = absurd v
      scaled (fin t m d) v = (v.0, ap (λ k. k * U) (sym (mul-one (m * up d)) ∙ v.1) ∙ mul_right_comm n (down d) U)

-- ---- Integers in range

small : (n : ℕ) → n ≤ 2147483648 → n < 2 ^ 53
small n h = omega arith

pub pos_range : (n : ℕ) → T (in_range (pos n)) → n < 2147483648
unfolding in_range
pos_range n h = ltb→lt n 2147483648 h

pub neg_range : (n : ℕ) → T (in_range (negsuc n)) → n < 2147483648
unfolding in_range
neg_range n h = ltb→lt n 2147483648 h

pub widened_binary64 : (z : ℤ) → T (in_range z) → T (is_binary64 (widened z))
unfolding widened
widened_binary64 (pos n) h = whole_binary64 n (small n (le_of_lt (pos_range n h))) false
widened_binary64 (negsuc n) h = whole_binary64 (suc n) (small (suc n) (neg_range n h)) true

-- the cast gives the widened Integer
pub widened_float : (z : ℤ) → T (in_range z) → Ieee.of_int binary64 z ≡ f64_of (widened z)
unfolding widened Ieee.of_int
widened_float (pos n) h = whole_float n (small n (le_of_lt (pos_range n h))) false
widened_float (negsuc n) h = whole_float (suc n) (small (suc n) (neg_range n h)) true

-- ---- and back

held_of_units : (s : Bool) (n : ℕ) → n < 2 ^ 53 → T (in_range (signed s n)) → held (of_units s (n * U)) ≡ int (signed s n)
unfolding of_units held held_as
held_of_units s n h r =
    let e = exponent (n * U) in
    ap (λ k. held_as (eqb (k % U) 0 && in_range (signed s (k / U))) (signed s (k / U)) (binary s (n * U / 2 ^ e) e)) (whole_exact n h)
    ∙ ap (λ k. held_as (eqb k 0 && in_range (signed s (n * U / U))) (signed s (n * U / U)) (binary s (n * U / 2 ^ e) e)) (mul-mod_left n U)
    ∙ ap (λ k. held_as (eqb 0 0 && in_range (signed s k)) (signed s k) (binary s (n * U / 2 ^ e) e)) (mul-div_cancel n (pow_pos 1074))
    ∙ ap (λ b. held_as b (signed s n) (binary s (n * U / 2 ^ e) e)) (test_true (in_range (signed s n)) r)

pub held_widened : (z : ℤ) → T (in_range z) → held (widened z) ≡ int z
unfolding widened signed
held_widened (pos n) h = held_of_units false n (small n (le_of_lt (pos_range n h))) h
held_widened (negsuc n) h = held_of_units true (suc n) (small (suc n) (neg_range n h)) h

held_real : (b : Bool) (z : ℤ) (r : Real) → T (is_real (held_as b z r)) → held_as b z r ≡ real r
unfolding held_as is_real
held_real true z r t = absurd t
held_real false z r t = refl

real_stays : (r : Real) → T (is_real (held r)) → held r ≡ real r
unfolding held
real_stays (binary s m e) t = held_real (eqb (m * 2 ^ e % U) 0 && in_range (signed s (m * 2 ^ e / U))) (signed s (m * 2 ^ e / U)) (binary s m e) t

pub held_widen : (x : Number) → T (kept x) → held (widen x) ≡ x
unfolding kept widen
held_widen (int z) k = held_widened z k
held_widen (real r) k = real_stays r (and_r (is_binary64 r) (is_real (held r)) k)

pub widen_binary64 : (x : Number) → T (kept x) → T (is_binary64 (widen x))
unfolding kept widen
widen_binary64 (int z) k = widened_binary64 z k
widen_binary64 (real r) k = and_l (is_binary64 r) (is_real (held r)) k
