-- Rounding gives the nearest binary64 number, ties to even. Assumes nothing.
use mathlib.Core.Path.{◌≡◌, refl, sym, ap, ◌∙◌, subst}
use mathlib.Core.Logic.{◌⊎◌, inl, inr}
use mathlib.Core.Bool.{Bool}
use mathlib.Core.Option.{some}
use Prim.Native.Nat.{ℕ, zero, suc, ◌+◌, ◌-◌, ◌*◌, ◌/◌, ◌%◌, ◌^◌, ◌≤◌, ◌<◌, compare}
use native.Mathlib.Nat.{le_of_lt, lt_of_lt_of_le, mul_assoc, mul_comm, mul-pos, mul-le-mul_right, mul-lt-mul_of_pos_right, suc-mul, le-div_iff_mul-le, div-div-eq-div-mul, div-add-mod', pow-suc, mod-lt, eq_of_mul-eq-mul_right}
use native.Mathlib.Omega.{arith}
use lib.Dec.{T, ltb, nltb→le}
use lib.Pow.{pow-add, pow_pos, pow_mono, shl_lt}
use Rattle.laws.proofs.Options.{if_some}
use Rattle.laws.proofs.Orders.{compare-lt, compare-gt, compare-eq, Three, less, same, over, three}
use Rattle.laws.proofs.Tests.{by-if}
use Rattle.reals.specs.Reals.{Real, binary, is_binary64, half_to_even, nearest_whole, exponent, carried, rounded}
use Rattle.reals.specs.Laws.{gap, sign_of, significand_of, magnitude, Nearest}
use Rattle.reals.proofs.Full.{Full, binary64→full}
use Rattle.reals.proofs.Rounding.{exponent_halves, at_most}

-- ---- whole numbers of u

-- where j · u stands, seen from f · u
data Seen (f u j : ℕ) : Type 0 where
  below : j * u + u ≤ f * u → Seen f u j
  here : j ≡ f → Seen f u j
  next : j ≡ suc f → j * u ≡ f * u + u → Seen f u j
  beyond : f * u + u + u ≤ j * u → Seen f u j

seen : (f u j : ℕ) → Seen f u j
seen f u j = go (three j f)
  where
    far : Three j (suc f) → f < j → Seen f u j
    far (less l) h = absurd (omega (arith, l, h))
    far (same e) h = next e (ap (λ k. k * u) e ∙ suc-mul f u)
    far (over l) h =
        let a : suc (suc f) * u ≤ j * u = mul-le-mul_right u l in
        let b = suc-mul (suc f) u in
        let c = suc-mul f u in
        beyond (omega (arith, a, b, c))

    go : Three j f → Seen f u j
    go (less l) = let a : suc j * u ≤ f * u = mul-le-mul_right u l in let b = suc-mul j u in below (omega (arith, a, b))
    go (same e) = here e
    go (over l) = far (three j (suc f)) l

abbrev pub Best : ℕ → ℕ → ℕ → ℕ → Type 0
Best n u q j = (gap n (q * u) ≤ gap n (j * u)) × (gap n (q * u) ≡ gap n (j * u) → (q ≡ j) ⊎ (q % 2 ≡ 0))

module _ (n f u r j : ℕ) (N : f * u + r ≡ n) (R : r < u) where
  -- less than half is left: f
  stay : r * 2 < u → Best n u f j
  unfolding gap
  stay h = go (seen f u j)
    where
      go : Seen f u j → Best n u f j
      go (below l) = (omega (arith, N, l), λ e. absurd (omega (arith, N, l, e, R)))
      go (here e) = let k : j * u ≡ f * u = ap (λ w. w * u) e in (omega (arith, k), λ w. inl (sym e))
      go (next e l) = (omega (arith, N, l, h), λ w. absurd (omega (arith, N, l, h, w)))
      go (beyond l) = (omega (arith, N, l, h), λ w. absurd (omega (arith, N, l, h, w)))

  -- more than half is left: the next
  go_up : u < r * 2 → Best n u (suc f) j
  unfolding gap
  go_up h = go (seen f u j)
    where
      s : suc f * u ≡ f * u + u
      s = suc-mul f u

      go : Seen f u j → Best n u (suc f) j
      go (below l) = (omega (arith, N, l, s, h, R), λ w. absurd (omega (arith, N, l, s, h, R, w)))
      go (here e) = let k : j * u ≡ f * u = ap (λ w. w * u) e in (omega (arith, N, k, s, h, R), λ w. absurd (omega (arith, N, k, s, h, R, w)))
      go (next e l) = (omega (arith, l, s), λ w. inl (sym e))
      go (beyond l) = (omega (arith, N, l, s, h, R), λ w. absurd (omega (arith, N, l, s, h, R, w)))

  -- half is left: the even one of f and the next
  halfway : (q : ℕ) → (q ≡ f) ⊎ (q ≡ suc f) → q % 2 ≡ 0 → r * 2 ≡ u → Best n u q j
  unfolding gap
  halfway q (inl e) ev h = (go (seen f u j), λ w. inr ev)
    where
      k : q * u ≡ f * u
      k = ap (λ w. w * u) e

      go : Seen f u j → gap n (q * u) ≤ gap n (j * u)
      go (below l) = omega (arith, N, l, k)
      go (here i) = let w : j * u ≡ f * u = ap (λ w. w * u) i in omega (arith, k, w)
      go (next i l) = omega (arith, N, l, k, h)
      go (beyond l) = omega (arith, N, l, k, h)
  halfway q (inr e) ev h = (go (seen f u j), λ w. inr ev)
    where
      k : q * u ≡ f * u + u
      k = ap (λ w. w * u) e ∙ suc-mul f u

      go : Seen f u j → gap n (q * u) ≤ gap n (j * u)
      go (below l) = omega (arith, N, l, k, h, R)
      go (here i) = let w : j * u ≡ f * u = ap (λ w. w * u) i in omega (arith, N, k, w, h)
      go (next i l) = omega (arith, l, k)
      go (beyond l) = omega (arith, N, l, k, h, R)

  tie_even : (f + f % 2) % 2 ≡ 0
  tie_even = omega arith

  tie_one : (f + f % 2 ≡ f) ⊎ (f + f % 2 ≡ suc f)
  tie_one = go (f % 2) refl
    where
      go : (p : ℕ) → f % 2 ≡ p → (f + f % 2 ≡ f) ⊎ (f + f % 2 ≡ suc f)
      go zero e = inl (omega (arith, e))
      go (suc p) e = inr (omega (arith, e))

  best : Best n u (half_to_even f (compare (r * 2) u)) j
  unfolding half_to_even
  best = go (three (r * 2) u)
    where
      go : Three (r * 2) u → Best n u (half_to_even f (compare (r * 2) u)) j
      go (less l) = subst (λ o. Best n u (half_to_even f o) j) (sym (compare-lt (r * 2) u l)) (stay l)
      go (same e) = subst (λ o. Best n u (half_to_even f o) j) (sym (compare-eq (r * 2) u e)) (halfway (f + f % 2) tie_one tie_even e)
      go (over l) = subst (λ o. Best n u (half_to_even f o) j) (sym (compare-gt (r * 2) u l)) (go_up l)

-- ---- all binary64 numbers

module _ (n d : ℕ) (D : 0 < d) where
  abbrev e : ℕ
  e = exponent (n / d)

  abbrev u : ℕ
  u = d * 2 ^ e

  abbrev q : ℕ
  q = nearest_whole n u

  u_pos : 0 < u
  u_pos = mul-pos D (pow_pos e)

  left : n % u < u
  left = mod-lt n u_pos

  pub at_best : (j : ℕ) → Best n u q j
  unfolding nearest_whole
  at_best j = best n (n / u) u (n % u) j (div-add-mod' n u) left

  -- the units, in the numerator's units
  scaled : (a : ℕ) → a * 2 ^ e * d ≡ a * u
  scaled a = mul_assoc a (2 ^ e) d ∙ ap (λ k. a * k) (mul_comm (2 ^ e) d)

  coarse : (j k : ℕ) → e ≤ k → j * 2 ^ k * d ≡ j * 2 ^ (k - e) * u
  coarse j k h =
      let s : k - e + e ≡ k = omega (arith, h) in
      ap (λ w. w * d) (ap (λ w. j * 2 ^ w) (sym s) ∙ ap (λ w. j * w) (pow-add 2 (k - e) e) ∙ sym (mul_assoc j (2 ^ (k - e)) (2 ^ e))) ∙ scaled (j * 2 ^ (k - e))

  -- a number with a smaller exponent lies below n / u, rounded down
  fine : (j k : ℕ) → Full j k → k < e → j * 2 ^ k * d < n / u * u
  fine j k f h = go (exponent_halves (n / d)).long
    where
      go : (e ≡ 0) ⊎ (2 ^ (52 + e) ≤ n / d) → j * 2 ^ k * d < n / u * u
      go (inl z) = absurd (omega (arith, z, h))
      go (inr l) =
          let a : j * 2 ^ k < 2 ^ 52 * 2 ^ e = lt_of_lt_of_le (shl_lt 53 k f.short) (subst (λ w. 2 ^ (53 + k) ≤ w) (pow-add 2 52 e) (pow_mono {i = (53 + k)} {j = (52 + e)} (omega (arith, h)))) in
          let b : 2 ^ 52 ≤ n / d / 2 ^ e = (le-div_iff_mul-le (pow_pos e)).1 (subst (λ w. w ≤ n / d) (pow-add 2 52 e) l) in
          let c : 2 ^ 52 * u ≤ n / u * u = mul-le-mul_right u (subst (λ w. 2 ^ 52 ≤ w) (div-div-eq-div-mul n d (2 ^ e)) b) in
          lt_of_lt_of_le (mul-lt-mul_of_pos_right a D) (subst (λ w. w ≤ n / u * u) (sym (scaled (2 ^ 52))) c)

  abbrev Answer : ℕ → ℕ → Type 0
  Answer m w = (gap n m ≤ gap n w) × (gap n m ≡ gap n w → (m ≡ w) ⊎ (q % 2 ≡ 0))

  against : (j k : ℕ) → Full j k → Answer (q * u) (j * 2 ^ k * d)
  unfolding gap
  against j k f = go (three k e)
    where
      wide : e ≤ k → Answer (q * u) (j * 2 ^ k * d)
      wide h =
          let b = at_best (j * 2 ^ (k - e)) in
          let c = coarse j k h in
          subst (λ w. Answer (q * u) w) (sym c) (b.0, λ w. eq_or (b.1 w))
        where
          eq_or : (q ≡ j * 2 ^ (k - e)) ⊎ (q % 2 ≡ 0) → (q * u ≡ j * 2 ^ (k - e) * u) ⊎ (q % 2 ≡ 0)
          eq_or (inl i) = inl (ap (λ w. w * u) i)
          eq_or (inr i) = inr i

      go : Three k e → Answer (q * u) (j * 2 ^ k * d)
      go (less l) =
          let b = (at_best (n / u)).0 in
          let v = fine j k f l in
          let w = div-add-mod' n u in
          (omega (arith, b, v, w), λ i. absurd (omega (arith, b, v, w, i)))
      go (same i) = wide (omega (arith, i))
      go (over l) = wide (le_of_lt l)

-- a carried result has the sign and the value of what was rounded, and an even significand where that is even
record Carries (s : Bool) (m e : ℕ) (r : Real) : Type 0 where
  pub sign : sign_of r ≡ s
  pub value : m ≤ 2 ^ 53 → magnitude r ≡ m * 2 ^ e
  pub even : m % 2 ≡ 0 → significand_of r % 2 ≡ 0

carries : (s : Bool) (m e : ℕ) → Carries s m e (carried s m e)
unfolding carried sign_of significand_of magnitude
carries s m e = by-if (Carries s m e) (ltb m (2 ^ 53)) (binary s m e) (binary s (2 ^ 52) (suc e))
    (λ t. record { sign = refl; value = λ h. refl; even = λ h. h })
    (λ t. record { sign = refl; value = over_value (nltb→le m (2 ^ 53) t); even = λ h. refl })
  where
    over_value : 2 ^ 53 ≤ m → m ≤ 2 ^ 53 → 2 ^ 52 * 2 ^ suc e ≡ m * 2 ^ e
    over_value l h =
        let w : m ≡ 2 ^ 53 = omega (arith, l, h) in
        ap (λ k. 2 ^ 52 * k) (pow-suc 2 e ∙ mul_comm (2 ^ e) 2) ∙ sym (mul_assoc (2 ^ 52) 2 (2 ^ e)) ∙ ap (λ k. k * 2 ^ e) (sym w)

module _ (s : Bool) (n d : ℕ) (D : 0 < d) (r : Real) (c : Carries s (q n d D) (e n d D) r) where
  value-is : magnitude r * d ≡ q n d D * u n d D
  value-is = ap (λ z. z * d) (c.value (at_most s n d D)) ∙ scaled n d D (q n d D)

  nearest_of : (x : Real) → T (is_binary64 x) → Nearest s n d r x
  unfolding magnitude
  nearest_of (binary t j k) p =
      let a = against n d D j k (binary64→full t j k p) in
      record {
        sign = c.sign;
        near = subst (λ z. gap n z ≤ gap n (j * 2 ^ k * d)) (sym value-is) a.0;
        tie = λ g. tied (a.1 (ap (gap n) (sym value-is) ∙ g));
      }
    where
      tied : (q n d D * u n d D ≡ j * 2 ^ k * d) ⊎ (q n d D % 2 ≡ 0) → (magnitude r ≡ j * 2 ^ k) ⊎ (significand_of r % 2 ≡ 0)
      tied (inl i) = inl (eq_of_mul-eq-mul_right d D (magnitude r) (j * 2 ^ k) (value-is ∙ i))
      tied (inr i) = inr (c.even i)

pub rounded_nearest : (s : Bool) (n d : ℕ) (r x : Real) → 0 < d → rounded s n d ≡ some r → T (is_binary64 x) → Nearest s n d r x
unfolding rounded
rounded_nearest s n d r x D h p =
    let i = if_some (ltb (q n d D * 2 ^ e n d D) (2 ^ 2098)) (carried s (q n d D) (e n d D)) h in
    nearest_of s n d D r (subst (Carries s (q n d D) (e n d D)) i.1 (carries s (q n d D) (e n d D))) x p
