-- The bits of a Real that is a whole number, and that whole number by the cast. Assumes nothing.
use mathlib.Core.Path.{◌≡◌, refl, sym, ap, ◌∙◌, subst}
use mathlib.Core.Logic.{◌⊎◌, inl, inr}
use mathlib.Core.Bool.{Bool, true, false}
use Prim.Native.Nat.{ℕ, ◌+◌, ◌-◌, ◌*◌, ◌/◌, ◌%◌, ◌^◌, ◌≤◌, ◌<◌}
use native.Mathlib.Nat.{lt_of_lt_of_le, lt_of_le_of_lt, mul_assoc, mul-pos, mul-mod_left, mul-div_cancel, div-mul-le_self, mod-eq_of_lt, eq_of_mul-eq-mul_right, div-add-mod', add-zero}
use native.Mathlib.Omega.{arith}
use lib.Dec.{T, ltb, eqb, ltb→lt}
use lib.Pow.{pow-add, pow_pos, pow_mono, shl_lt, shl-shr}
use borrow.Author.Tests.{ltb-false, lt-ltb, le-ltb, ne_eqb}
use Rattle.std.specs.Prelude.{if◌then◌else◌, Some, None}
use Rattle.floats.specs.Meanings.{units_at, whole_at}
use Rattle.reals.proofs.Full.{Full}

abbrev U : ℕ
U = 2 ^ 1074

-- ---- units by rank

units_low : (b : ℕ) → b < 2 ^ 52 → units_at b ≡ b
unfolding units_at
units_low b h = ap (λ t. if t then b else (2 ^ 52 + b % 2 ^ 52) * 2 ^ (b / 2 ^ 52 - 1)) (lt-ltb b (2 ^ 52) h)

units_high : (b : ℕ) → 2 ^ 52 ≤ b → units_at b ≡ (2 ^ 52 + b % 2 ^ 52) * 2 ^ (b / 2 ^ 52 - 1)
unfolding units_at
units_high b h = ap (λ t. if t then b else (2 ^ 52 + b % 2 ^ 52) * 2 ^ (b / 2 ^ 52 - 1)) (le-ltb b (2 ^ 52) h)

-- the Real with this rank
pub record Ranked (b m e : ℕ) : Type 0 where
  pub full : Full m e
  pub at : e * 2 ^ 52 + m ≡ b

pub high_ranked : (b : ℕ) → 2 ^ 52 ≤ b → Ranked b (2 ^ 52 + b % 2 ^ 52) (b / 2 ^ 52 - 1)
high_ranked b h = record { full = record { short = omega arith; long = inr (omega arith) }; at = omega (arith, h) }

pub units_ranked : (m e : ℕ) → Full m e → units_at (e * 2 ^ 52 + m) ≡ m * 2 ^ e
units_ranked m e f = go f.long
  where
    high : 2 ^ 52 ≤ m → units_at (e * 2 ^ 52 + m) ≡ m * 2 ^ e
    high l =
        let s = f.short in
        let x : 2 ^ 52 + (e * 2 ^ 52 + m) % 2 ^ 52 ≡ m = omega (arith, l, s) in
        let y : (e * 2 ^ 52 + m) / 2 ^ 52 - 1 ≡ e = omega (arith, l, s) in
        units_high (e * 2 ^ 52 + m) (omega (arith, l)) ∙ ap (λ k. k * 2 ^ ((e * 2 ^ 52 + m) / 2 ^ 52 - 1)) x ∙ ap (λ k. m * 2 ^ k) y

    low : e ≡ 0 → (b : Bool) → ltb m (2 ^ 52) ≡ b → units_at (e * 2 ^ 52 + m) ≡ m * 2 ^ e
    low z true q =
        let l = ltb→lt m (2 ^ 52) (subst T (sym q) tt) in
        let w : e * 2 ^ 52 + m ≡ m = omega (arith, z) in
        let v : m ≡ m * 1 = omega arith in
        ap units_at w ∙ units_low m l ∙ v ∙ ap (λ k. m * 2 ^ k) (sym z)
    low z false q = high (ltb-false m (2 ^ 52) q)

    go : (e ≡ 0) ⊎ (2 ^ 52 ≤ m) → units_at (e * 2 ^ 52 + m) ≡ m * 2 ^ e
    go (inl z) = low z (ltb m (2 ^ 52)) refl
    go (inr l) = high l

-- ---- what is whole

pub whole_is : (b j : ℕ) → units_at b ≡ j * U → whole_at b ≡ Some j
unfolding whole_at
whole_is b j e =
    ap (λ k. if eqb (k % U) 0 then Some (k / U) else None) e
    ∙ ap (λ k. if eqb k 0 then Some (j * U / U) else None) (mul-mod_left j U)
    ∙ ap (λ k. Some k) (mul-div_cancel j (pow_pos 1074))

whole_not : (b : ℕ) → (units_at b % U ≡ 0 → ⊥) → whole_at b ≡ None
unfolding whole_at
whole_not b h = ap (λ t. if t then Some (units_at b / U) else None) (ne_eqb (units_at b % U) 0 h)

pub whole_zero : (b : ℕ) → b ≡ 0 → Some 0 ≡ whole_at b
whole_zero b z = sym (whole_is b 0 (ap units_at z ∙ units_low 0 (pow_pos 52)))

-- below 1 nothing is whole but 0
below_one : (b : ℕ) → b < 4607182418800017408 → units_at b < U
below_one b h = go (ltb b (2 ^ 52)) refl
  where
    go : (t : Bool) → ltb b (2 ^ 52) ≡ t → units_at b < U
    go true q = let l = ltb→lt b (2 ^ 52) (subst T (sym q) tt) in subst (λ k. k < U) (sym (units_low b l)) (lt_of_lt_of_le l (pow_mono {i = 52} {j = 1074} (omega arith)))
    go false q =
        let l = ltb-false b (2 ^ 52) q in
        let k : 53 + (b / 2 ^ 52 - 1) ≤ 1074 = omega (arith, h, l) in
        subst (λ w. w < U) (sym (units_high b l)) (lt_of_lt_of_le (shl_lt 53 (b / 2 ^ 52 - 1) (high_ranked b l).full.short) (pow_mono {i = (53 + (b / 2 ^ 52 - 1))} {j = 1074} k))

above_zero : (b : ℕ) → 0 < b → 0 < units_at b
above_zero b h = go (ltb b (2 ^ 52)) refl
  where
    go : (t : Bool) → ltb b (2 ^ 52) ≡ t → 0 < units_at b
    go true q = let l = ltb→lt b (2 ^ 52) (subst T (sym q) tt) in subst (λ k. 0 < k) (sym (units_low b l)) h
    go false q =
        let l = ltb-false b (2 ^ 52) q in
        let p : 0 < 2 ^ 52 + b % 2 ^ 52 = omega arith in
        subst (λ w. 0 < w) (sym (units_high b l)) (mul-pos p (pow_pos (b / 2 ^ 52 - 1)))

pub whole_below : (b : ℕ) → (b ≡ 0 → ⊥) → b < 4607182418800017408 → None ≡ whole_at b
whole_below b n h =
    let p : 0 < b = omega (arith, n) in
    let s = above_zero b p in
    sym (whole_not b (λ z. let q = sym (mod-eq_of_lt (below_one b h)) ∙ z in omega (arith, q, s)))

-- ---- from 1 to 2^31: the digits after the point

module _ (b : ℕ) (lo : 4607182418800017408 ≤ b) (hi : b ≤ 4746794007248502784) where
  abbrev m : ℕ
  m = 2 ^ 52 + b % 2 ^ 52

  abbrev e : ℕ
  e = b / 2 ^ 52 - 1

  abbrev k : ℕ
  k = 1075 - b / 2 ^ 52

  above : 2 ^ 52 ≤ b
  above = omega (arith, lo)

  units_here : units_at b ≡ m * 2 ^ e
  units_here = units_high b above

  unit : 2 ^ k * 2 ^ e ≡ U
  unit = let s : k + e ≡ 1074 = omega (arith, lo, hi) in sym (pow-add 2 k e) ∙ ap (λ j. 2 ^ j) s

  shifted : (m / 2 ^ k * 2 ^ k) % 18446744073709551616 ≡ m / 2 ^ k * 2 ^ k
  shifted = mod-eq_of_lt (lt_of_le_of_lt (div-mul-le_self m (2 ^ k)) (omega arith))

  -- all digits after the point are 0
  pub whole_some : (m / 2 ^ k * 2 ^ k) % 18446744073709551616 ≡ m → Some (m / 2 ^ k) ≡ whole_at b
  whole_some t =
      let q = m / 2 ^ k in
      sym (whole_is b q (units_here ∙ ap (λ j. j * 2 ^ e) (sym t ∙ shifted) ∙ mul_assoc q (2 ^ k) (2 ^ e) ∙ ap (λ j. q * j) unit))

  -- one of them is 1
  units_fraction : ((m / 2 ^ k * 2 ^ k) % 18446744073709551616 ≡ m → ⊥) → units_at b % U ≡ 0 → ⊥
  units_fraction n z =
      let q = units_at b / U in
      let a : m * 2 ^ e ≡ q * 2 ^ k * 2 ^ e =
      sym units_here ∙ sym (div-add-mod' (units_at b) U) ∙ ap (λ j. q * U + j) z ∙ add-zero (q * U) ∙ ap (λ j. q * j) (sym unit) ∙ sym (mul_assoc q (2 ^ k) (2 ^ e)) in
      let c : m ≡ q * 2 ^ k = eq_of_mul-eq-mul_right (2 ^ e) (pow_pos e) m (q * 2 ^ k) a in
      n (shifted ∙ ap (λ j. j / 2 ^ k * 2 ^ k) c ∙ ap (λ j. j * 2 ^ k) (shl-shr q k) ∙ sym c)

  pub whole_none : ((m / 2 ^ k * 2 ^ k) % 18446744073709551616 ≡ m → ⊥) → None ≡ whole_at b
  whole_none n = sym (whole_not b (units_fraction n))
