-- What it takes to be a binary64 number; a number of units has one exponent. Assumes nothing.
use mathlib.Core.Path.{◌≡◌, sym, subst}
use mathlib.Core.Logic.{◌⊎◌, inl, inr}
use mathlib.Core.Bool.{Bool, ◌&&◌, ◌||◌}
use Prim.Native.Nat.{ℕ, ◌+◌, ◌-◌, ◌*◌, ◌^◌, ◌≤◌, ◌<◌}
use native.Mathlib.Nat.{lt_of_lt_of_le, lt_of_le_of_lt, lt_of_not-le, not-le_of_lt, mul-le-mul_right}
use native.Mathlib.Omega.{arith}
use lib.Dec.{T, leb, ltb, eqb, leb→le, ltb→lt, le→leb, lt→ltb, eqb→eq, eqb_refl}
use lib.Pow.{pow-add, pow_mono, shl_lt}
use lib.Ieee as Ieee
use lib.Ieee.Digits.{size-lt, size-le}
use Rattle.laws.proofs.Tests.{and_i, and_l, and_r, or-e, or_l, or_r}
use Rattle.reals.specs.Reals.{binary, is_binary64}

-- 53 digits at most, and all 53 above the least exponent
pub record Full (m e : ℕ) : Type 0 where
  pub short : m < 2 ^ 53
  pub long : (e ≡ 0) ⊎ (2 ^ 52 ≤ m)

pub binary64→full : (s : Bool) (m e : ℕ) → T (is_binary64 (binary s m e)) → Full m e
unfolding is_binary64
binary64→full s m e t =
    let A = ltb m (2 ^ 53) in
    let B = eqb e 0 || leb (2 ^ 52) m in
    let C = leb e 2045 in
    record {
      short = ltb→lt m (2 ^ 53) (and_l A B (and_l (A && B) C t));
      long = or-e (eqb e 0) (leb (2 ^ 52) m) (and_r A B (and_l (A && B) C t)) (λ u. inl (eqb→eq e 0 u)) (λ u. inr (leb→le (2 ^ 52) m u));
    }

pub binary64→low : (s : Bool) (m e : ℕ) → T (is_binary64 (binary s m e)) → e ≤ 2045
unfolding is_binary64
binary64→low s m e t = leb→le e 2045 (and_r (ltb m (2 ^ 53) && (eqb e 0 || leb (2 ^ 52) m)) (leb e 2045) t)

pub full→binary64 : (s : Bool) (m e : ℕ) → Full m e → e ≤ 2045 → T (is_binary64 (binary s m e))
unfolding is_binary64
full→binary64 s m e f l =
    let A = ltb m (2 ^ 53) in
    let B = eqb e 0 || leb (2 ^ 52) m in
    and_i (A && B) (leb e 2045) (and_i A B (lt→ltb m (2 ^ 53) f.short) (long f.long)) (le→leb e 2045 l)
  where
    long : (e ≡ 0) ⊎ (2 ^ 52 ≤ m) → T (eqb e 0 || leb (2 ^ 52) m)
    long (inl z) = or_l (eqb e 0) (leb (2 ^ 52) m) (subst (λ k. T (eqb k 0)) (sym z) (eqb_refl 0))
    long (inr h) = or_r (eqb e 0) (leb (2 ^ 52) m) (le→leb (2 ^ 52) m h)

-- below 2^1024
pub full_below : (m e : ℕ) → Full m e → e ≤ 2045 → m * 2 ^ e < 2 ^ 2098
full_below m e f l = lt_of_lt_of_le (shl_lt 53 e f.short) (pow_mono {i = (53 + e)} {j = 2098} (omega arith))

pub pow_back : (i j : ℕ) → 2 ^ i < 2 ^ j → i < j
pow_back i j h = lt_of_not-le (λ (l : j ≤ i). not-le_of_lt h (pow_mono l))

-- the exponent, by the number of digits that there are too many
pub digits_over : (q h : ℕ) → q < 2 ^ (53 + h) → (h ≡ 0) ⊎ (2 ^ (52 + h) ≤ q) → Ieee.size q - 53 ≡ h
digits_over q h u l = go (size-le q (53 + h) u) l
  where
    go : Ieee.size q ≤ 53 + h → (h ≡ 0) ⊎ (2 ^ (52 + h) ≤ q) → Ieee.size q - 53 ≡ h
    go a (inl z) = omega arith
    go a (inr l) =
        let b : 52 + h < Ieee.size q = pow_back (52 + h) (Ieee.size q) (lt_of_le_of_lt l (size-lt q)) in
        omega arith

pub digits_full : (m e : ℕ) → Full m e → Ieee.size (m * 2 ^ e) - 53 ≡ e
digits_full m e f = digits_over (m * 2 ^ e) e (shl_lt 53 e f.short) (go f.long)
  where
    go : (e ≡ 0) ⊎ (2 ^ 52 ≤ m) → (e ≡ 0) ⊎ (2 ^ (52 + e) ≤ m * 2 ^ e)
    go (inl z) = inl z
    go (inr l) = inr (subst (λ k. k ≤ m * 2 ^ e) (sym (pow-add 2 52 e)) (mul-le-mul_right (2 ^ e) l))
