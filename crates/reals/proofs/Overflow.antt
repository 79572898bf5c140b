-- A result is infinite exactly from half a step past the largest Real on. Assumes nothing.
use mathlib.Core.Path.{◌≡◌, refl, sym, ap, ◌∙◌, subst}
use mathlib.Core.Logic.{◌⊎◌, inl, inr, ◌↔◌}
use mathlib.Core.Bool.{Bool, true, false}
use mathlib.Core.Option.{none, some, none-ne-some}
use Prim.Native.Nat.{ℕ, suc, ◌+◌, ◌-◌, ◌*◌, ◌/◌, ◌%◌, ◌^◌, ◌≤◌, ◌<◌}
use native.Mathlib.Nat.{le_trans, lt_of_lt_of_le, lt_of_le_of_lt, not-le_of_lt, mul_assoc, mul_comm, mul-pos, mul-le-mul_right, le_of_mul-le-mul_right, div-lt_iff_lt-mul, le-div_iff_mul-le, suc-mul, mul_right_comm}
use native.Mathlib.Omega.{arith}
use lib.Dec.{ltb, lit<, lit≤}
use lib.Pow.{pow-add, pow_pos, pow_mono}
use Rattle.std.specs.Prelude.{if◌then◌else◌}
use Rattle.laws.proofs.Orders.{Three, less, same, over, three}
use borrow.Author.Tests.{ltb-true, ltb-false}
use Rattle.reals.specs.Reals.{carried, nearest_whole, exponent, rounded}
use Rattle.reals.specs.Laws.{gap}
use Rattle.reals.proofs.Rounding.{exponent_halves, at_most, at_least}
use Rattle.reals.proofs.Nearest.{at_best}

-- ---- plain numbers

doubled : (a p d : ℕ) → a * p * d * 2 ≡ a * (p * 2 * d)
doubled a p d = mul_assoc (a * p) d 2 ∙ mul_assoc a p (d * 2) ∙ ap (λ k. a * k) (sym (mul_assoc p d 2) ∙ mul_right_comm p d 2)

-- Q is 2^53 of u and not farther from n than one u less: n is at the middle H or above
upper : (n u H Q : ℕ) → Q ≡ 2 ^ 53 * u → gap n Q ≤ gap n ((2 ^ 53 - 1) * u) → H * 2 ≡ (2 ^ 54 - 1) * u → 0 < u → H ≤ n
unfolding gap
upper n u H Q c g w p = omega (arith, c, g, w, p)

-- Q is two u less at least: it is farther from n than 2^53 of u
lower : (n u H Q R : ℕ) → R ≤ (2 ^ 53 - 1) * u → R ≡ Q + u → gap n Q ≤ gap n (2 ^ 53 * u) → H * 2 ≡ (2 ^ 54 - 1) * u → H ≤ n → 0 < u → ⊥
unfolding gap
lower n u H Q R a b g w h p = omega (arith, a, b, g, w, h, p)

-- Q is one u less: then n is at the middle
tied : (n u H Q : ℕ) → Q ≡ (2 ^ 53 - 1) * u → gap n Q ≤ gap n (2 ^ 53 * u) → H * 2 ≡ (2 ^ 54 - 1) * u → H ≤ n → 0 < u → gap n Q ≡ gap n (2 ^ 53 * u)
unfolding gap
tied n u H Q c g w h p = omega (arith, c, g, w, h, p)

module _ (s : Bool) (n d : ℕ) (D : 0 < d) where
  abbrev e : ℕ
  e = exponent (n / d)

  abbrev u : ℕ
  u = d * 2 ^ e

  abbrev q : ℕ
  q = nearest_whole n u

  -- half a step past the largest, in the numerator's units
  abbrev half : ℕ
  half = (2 ^ 54 - 1) * 2 ^ 2044 * d

  -- with a smaller exponent the number is far below, and its rounded value too
  low_value : e < 2045 → q * 2 ^ e < 2 ^ 2098
  low_value h =
      let a : q * 2 ^ e ≤ 2 ^ 53 * 2 ^ e = mul-le-mul_right (2 ^ e) (at_most s n d D) in
      let b : 2 ^ 53 * 2 ^ e ≤ 2 ^ 2097 = subst (λ k. k ≤ 2 ^ 2097) (pow-add 2 53 e) (pow_mono {i = (53 + e)} {j = 2097} (omega (arith, h))) in
      lt_of_le_of_lt (le_trans a b) (lit< {m = (2 ^ 2097)} {n = (2 ^ 2098)} tt)

  low_number : e < 2045 → n < half
  low_number h =
      let a : n < 2 ^ (53 + e) * d = (div-lt_iff_lt-mul D).0 (exponent_halves (n / d)).short in
      let b : 2 ^ (53 + e) * d ≤ 2 ^ 2097 * d = mul-le-mul_right d (pow_mono {i = (53 + e)} {j = 2097} (omega (arith, h))) in
      lt_of_lt_of_le (lt_of_lt_of_le a b) (mul-le-mul_right d (lit≤ {m = (2 ^ 2097)} {n = ((2 ^ 54 - 1) * 2 ^ 2044)} tt))

  -- with a larger one both are far above
  high_number : 2045 < e → half ≤ n
  high_number h = go (exponent_halves (n / d)).long
    where
      go : (e ≡ 0) ⊎ (2 ^ (52 + e) ≤ n / d) → half ≤ n
      go (inl z) = absurd (omega (arith, z, h))
      go (inr l) =
          let a : 2 ^ (52 + e) * d ≤ n = (le-div_iff_mul-le D).0 l in
          let b : 2 ^ 2098 * d ≤ 2 ^ (52 + e) * d = mul-le-mul_right d (pow_mono {i = 2098} {j = (52 + e)} (omega (arith, h))) in
          le_trans (mul-le-mul_right d (lit≤ {m = ((2 ^ 54 - 1) * 2 ^ 2044)} {n = (2 ^ 2098)} tt)) (le_trans b a)

  high_value : 2045 < e → 2 ^ 2098 ≤ q * 2 ^ e
  high_value h = go (at_least s n d D)
    where
      go : (e ≡ 0) ⊎ (2 ^ 52 ≤ q) → 2 ^ 2098 ≤ q * 2 ^ e
      go (inl z) = absurd (omega (arith, z, h))
      go (inr l) = le_trans (subst (λ k. 2 ^ 2098 ≤ k) (pow-add 2 52 e) (pow_mono {i = 2098} {j = (52 + e)} (omega (arith, h)))) (mul-le-mul_right (2 ^ e) l)

  -- at the largest exponent: 2^53 of u, or one less
  module _ (x : e ≡ 2045) where
    u_is : u ≡ 2 ^ 2045 * d
    u_is = ap (λ k. d * 2 ^ k) x ∙ mul_comm d (2 ^ 2045)

    halves : half * 2 ≡ (2 ^ 54 - 1) * u
    halves = doubled (2 ^ 54 - 1) (2 ^ 2044) d ∙ ap (λ k. (2 ^ 54 - 1) * k) (sym u_is)

    q_of : (k : ℕ) → q ≡ k → q * u ≡ k * u
    q_of k i = ap (λ j. j * u) i

    from_value : 2 ^ 2098 ≤ q * 2 ^ e → half ≤ n
    unfolding gap
    from_value h =
        let a : 2 ^ 53 ≤ q = le_of_mul-le-mul_right (subst (λ k. 2 ^ 53 * 2 ^ 2045 ≤ q * 2 ^ k) x h) (pow_pos 2045) in
        let b : q ≡ 2 ^ 53 = let c = at_most s n d D in omega (arith, a, c) in
        let c : q * u ≡ 2 ^ 53 * u = q_of (2 ^ 53) b in
        let g = (at_best n d D (2 ^ 53 - 1)).0 in
        let w = halves in
        let p : 0 < u = mul-pos D (pow_pos e) in
        upper n u half (q * u) c g w p

    from_number : half ≤ n → 2 ^ 2098 ≤ q * 2 ^ e
    unfolding gap
    from_number h = subst (λ k. 2 ^ 2098 ≤ q * 2 ^ k) (sym x) (mul-le-mul_right (2 ^ 2045) (go (three q (2 ^ 53 - 1))))
      where
        p : 0 < u
        p = mul-pos D (pow_pos e)

        go : Three q (2 ^ 53 - 1) → 2 ^ 53 ≤ q
        go (over l) = omega (arith, l)
        go (less l) =
            let a : suc q * u ≤ (2 ^ 53 - 1) * u = mul-le-mul_right u l in
            let b = suc-mul q u in
            let g = (at_best n d D (2 ^ 53)).0 in
            let w = halves in
            absurd (lower n u half (q * u) (suc q * u) a b g w h p)
        go (same i) =
            let c : q * u ≡ (2 ^ 53 - 1) * u = q_of (2 ^ 53 - 1) i in
            let best = at_best n d D (2 ^ 53) in
            let g = best.0 in
            let w = halves in
            absurd (odd (best.1 (tied n u half (q * u) c g w h p)))
          where
            odd : (q ≡ 2 ^ 53) ⊎ (q % 2 ≡ 0) → ⊥
            odd (inl j) = omega (arith, i, j)
            odd (inr j) = omega (arith, i, j)

  same_side : (2 ^ 2098 ≤ q * 2 ^ e → half ≤ n) × (half ≤ n → 2 ^ 2098 ≤ q * 2 ^ e)
  same_side = go (three e 2045)
    where
      go : Three e 2045 → (2 ^ 2098 ≤ q * 2 ^ e → half ≤ n) × (half ≤ n → 2 ^ 2098 ≤ q * 2 ^ e)
      go (less l) = (λ h. absurd (not-le_of_lt (low_value l) h), λ h. absurd (not-le_of_lt (low_number l) h))
      go (same x) = (from_value x, from_number x)
      go (over l) = (λ h. high_number l, λ h. high_value l)

  is_none : (rounded s n d ≡ none → 2 ^ 2098 ≤ q * 2 ^ e) × (2 ^ 2098 ≤ q * 2 ^ e → rounded s n d ≡ none)
  unfolding rounded
  is_none = go (ltb (q * 2 ^ e) (2 ^ 2098)) refl
    where
      go : (t : Bool) → ltb (q * 2 ^ e) (2 ^ 2098) ≡ t → ((if t then some (carried s q e) else none) ≡ none → 2 ^ 2098 ≤ q * 2 ^ e) × (2 ^ 2098 ≤ q * 2 ^ e → (if t then some (carried s q e) else none) ≡ none)
      go true w = (λ h. absurd (none-ne-some (carried s q e) (sym h)), λ h. absurd (not-le_of_lt (ltb-true (q * 2 ^ e) (2 ^ 2098) w) h))
      go false w = (λ h. ltb-false (q * 2 ^ e) (2 ^ 2098) w, λ h. refl)

pub infinite_from_half : (s : Bool) (n d : ℕ) → 0 < d → (rounded s n d ≡ none) ↔ ((2 ^ 54 - 1) * 2 ^ 2044 * d ≤ n)
infinite_from_half s n d D = (λ h. (same_side s n d D).0 ((is_none s n d D).0 h), λ h. (is_none s n d D).1 ((same_side s n d D).1 h))
