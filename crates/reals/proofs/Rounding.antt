-- The rounding of specs/Reals.antt is f64's: the same exponent, the same whole number, the same infinity. Assumes nothing.
use mathlib.Core.Path.{◌≡◌, refl, sym, ap, ◌∙◌, subst}
use mathlib.Core.Logic.{◌⊎◌, inl, inr}
use mathlib.Core.Bool.{Bool, true, false, not}
use mathlib.Core.Option.{Option, none, some, none-ne-some, some-injective}
use Prim.Native.Nat.{ℕ, zero, suc, ◌+◌, ◌-◌, ◌*◌, ◌/◌, ◌%◌, ◌^◌, ◌≤◌, ◌<◌, compare, Ordering}
use native.Mathlib.Nat.{le_refl, le_trans, lt_of_lt_of_le, lt_of_le_of_lt, mul_assoc, mul_comm, mul_left_comm, mul-pos, mul-le-mul_right, div-lt_iff_lt-mul, le-div_iff_mul-le, div-div-eq-div-mul, pow-suc, zero-lt-suc}
use native.Mathlib.Omega.{arith}
use lib.Dec.{T, ltb, ltb→lt, nltb→le}
use lib.Pow.{pow-add, pow_pos, pow_mono}
use lib.Ieee as Ieee
use lib.Ieee.{Float, inf, binary64, units, odd}
use lib.Ieee.Fits.{round_is, round-fits, nearest-le}
use lib.Ieee.Exact.{HasValue, units_val}
use lib.Ieee.Nearest.{closest, closest_same, div_same, nearest-ge}
use lib.Ieee.Bits.{cond_no}
use Rattle.laws.proofs.Tests.{by-if}
use Rattle.reals.specs.Reals.{Real, binary, is_binary64, half_to_even, nearest_whole, halvings, exponent, carried, rounded}
use Rattle.reals.specs.Floats.{f64_of}
use Rattle.reals.proofs.Full.{Full, full→binary64, digits_over, pow_back}
use Rattle.reals.proofs.Floats.{the_float}

-- ---- the exponent

-- q has at most 53 digits after h halvings, and 53 if there is one
pub record Halved (q h : ℕ) : Type 0 where
  pub short : q < 2 ^ (53 + h)
  pub long : (h ≡ 0) ⊎ (2 ^ (52 + h) ≤ q)

twice : (a r : ℕ) → 2 ^ (a + suc r) ≡ 2 ^ (a + r) * 2
twice a r = let e : a + suc r ≡ suc (a + r) = omega arith in ap (λ k. 2 ^ k) e ∙ pow-suc 2 (a + r)

halved : (r : ℕ) (q : ℕ) (b : Bool) → b ≡ ltb q (2 ^ 53) → q < 2 ^ (53 + r) → Halved q (halvings r b q)
unfolding halvings
halved zero q b e l = record { short = l; long = inl refl }
halved (suc r) q true e l = record { short = ltb→lt q (2 ^ 53) (subst T e tt); long = inl refl }
halved (suc r) q false e l =
    let h = halvings r (ltb (q / 2) (2 ^ 53)) (q / 2) in
    let ih : Halved (q / 2) h = halved r (q / 2) (ltb (q / 2) (2 ^ 53)) refl ((div-lt_iff_lt-mul (zero-lt-suc 1)).1 (subst (λ k. q < k) (twice 53 r) l)) in
    record {
      short = subst (λ k. q < k) (sym (twice 53 h)) ((div-lt_iff_lt-mul (zero-lt-suc 1)).0 ih.short);
      long = inr (go h ih.long);
    }
  where
    over : 2 ^ 53 ≤ q
    over = nltb→le q (2 ^ 53) (subst (λ t. T (not t)) e tt)

    go : (h : ℕ) → (h ≡ 0) ⊎ (2 ^ (52 + h) ≤ q / 2) → 2 ^ (52 + suc h) ≤ q
    go h (inl z) = subst (λ k. 2 ^ (52 + suc k) ≤ q) (sym z) over
    go h (inr l) = subst (λ k. k ≤ q) (sym (twice 52 h)) ((le-div_iff_mul-le (zero-lt-suc 1)).0 l)

below_power : (n : ℕ) → n < 2 ^ n
below_power zero = zero-lt-suc 0
below_power (suc n) = let h = below_power n in let e = pow-suc 2 n in omega (arith, h, e)

pub exponent_halves : (q : ℕ) → Halved q (exponent q)
unfolding exponent
exponent_halves q = halved q q (ltb q (2 ^ 53)) refl (lt_of_lt_of_le (below_power q) (pow_mono {i = q} {j = (53 + q)} (omega arith)))

pub exponent_is : (q : ℕ) → Ieee.size q - 53 ≡ exponent q
exponent_is q = digits_over q (exponent q) (exponent_halves q).short (exponent_halves q).long

-- ---- the whole number

half_is : (q : ℕ) (o : Ordering) → half_to_even q o ≡ Ieee.nearest q o
unfolding half_to_even
half_is q Ordering.lt = refl
half_is q Ordering.eq = refl
half_is q Ordering.gt = refl

nearest_is : (n d : ℕ) → nearest_whole n d ≡ closest n d
unfolding nearest_whole
nearest_is n d = half_is (n / d) (compare (n % d * 2) d)

-- ---- the result

pub data Rounds (s : Bool) (x : Float) : Option Real → Type 0 where
  finite : {r : Real} → T (is_binary64 r) → x ≡ f64_of r → Rounds s x (some r)
  infinite : x ≡ inf s → Rounds s x none

-- both, in units: the exponent is that of n / d, and the fraction is rounded to a whole number of 2^exponent
in_units : (s : Bool) (n d : ℕ) → 0 < d → Ieee.round binary64 s n (d * 2 ^ 1074) ≡ units binary64 s (nearest_whole n (d * 2 ^ exponent (n / d))) (exponent (n / d))
in_units s n d D =
    let U = 2 ^ 1074 in
    let e = exponent (n / d) in
    let DU : 0 < d * U = mul-pos D (pow_pos 1074) in
    let a : n * U / (d * U) ≡ n / d = div_same (n * U) (d * U) n d DU D (simp (mul_assoc, mul_comm)) in
    let k : Ieee.size (n * U / (d * U)) - 53 ≡ e = ap (λ w. Ieee.size w - 53) a ∙ exponent_is (n / d) in
    let q : closest (n * U) (d * U * 2 ^ e) ≡ closest n (d * 2 ^ e) = closest_same (n * U) (d * U * 2 ^ e) n (d * 2 ^ e) (mul-pos DU (pow_pos e)) (mul-pos D (pow_pos e)) (simp (mul_assoc, mul_left_comm)) in
    round_is binary64 s n (d * U)
    ∙ ap (λ w. units binary64 s (closest (n * U) (d * U * 2 ^ w)) w) k
    ∙ ap (λ w. units binary64 s w e) (q ∙ sym (nearest_is n (d * 2 ^ e)))

module _ (s : Bool) (n d : ℕ) (D : 0 < d) where
  abbrev e : ℕ
  e = exponent (n / d)

  abbrev m : ℕ
  m = nearest_whole n (d * 2 ^ e)

  cut : n / (d * 2 ^ e) ≡ n / d / 2 ^ e
  cut = sym (div-div-eq-div-mul n d (2 ^ e))

  pub at_most : m ≤ 2 ^ 53
  at_most =
      let a : n / d / 2 ^ e < 2 ^ 53 = (div-lt_iff_lt-mul (pow_pos e)).1 (subst (λ k. n / d < k) (pow-add 2 53 e) (exponent_halves (n / d)).short) in
      subst (λ k. k ≤ 2 ^ 53) (sym (nearest_is n (d * 2 ^ e))) (le_trans (nearest-le (n / (d * 2 ^ e)) (compare (n % (d * 2 ^ e) * 2) (d * 2 ^ e))) (subst (λ k. k < 2 ^ 53) (sym cut) a))

  pub at_least : (e ≡ 0) ⊎ (2 ^ 52 ≤ m)
  at_least = go (exponent_halves (n / d)).long
    where
      go : (e ≡ 0) ⊎ (2 ^ (52 + e) ≤ n / d) → (e ≡ 0) ⊎ (2 ^ 52 ≤ m)
      go (inl z) = inl z
      go (inr l) =
          let a : 2 ^ 52 ≤ n / d / 2 ^ e = (le-div_iff_mul-le (pow_pos e)).1 (subst (λ k. k ≤ n / d) (pow-add 2 52 e) l) in
          inr (subst (λ k. 2 ^ 52 ≤ k) (sym (nearest_is n (d * 2 ^ e))) (le_trans (subst (λ k. 2 ^ 52 ≤ k) (sym cut) a) (nearest-ge (n / (d * 2 ^ e)) (compare (n % (d * 2 ^ e) * 2) (d * 2 ^ e)))))

  abbrev x : Float
  x = Ieee.round binary64 s n (d * 2 ^ 1074)

  -- how far up: 2^k units at least, and below 2^2098
  under : (k : ℕ) → 2 ^ k * 2 ^ e ≤ m * 2 ^ e → m * 2 ^ e < 2 ^ 2098 → k + e < 2098
  under k a b = pow_back (k + e) 2098 (lt_of_le_of_lt (subst (λ j. j ≤ m * 2 ^ e) (sym (pow-add 2 k e)) a) b)

  low : (e ≡ 0) ⊎ (2 ^ 52 ≤ m) → m * 2 ^ e < 2 ^ 2098 → e ≤ 2045
  low (inl z) h = omega (arith, z)
  low (inr l) h = let b = under 52 (mul-le-mul_right (2 ^ e) l) h in omega (arith, b)

  fine : m * 2 ^ e < 2 ^ 2098 → Rounds s x (some (carried s m e))
  unfolding carried
  fine h = by-if (λ r. Rounds s x (some r)) (ltb m (2 ^ 53)) (binary s m e) (binary s (2 ^ 52) (suc e)) plain over
    where
      v : HasValue x s (m * 2 ^ e) (2 ^ 1074)
      v = subst (λ y. HasValue y s (m * 2 ^ e) (2 ^ 1074)) (sym (in_units s n d D)) (units_val binary64 s m e h)

      plain : T (ltb m (2 ^ 53)) → Rounds s x (some (binary s m e))
      plain t =
          let f : Full m e = record { short = ltb→lt m (2 ^ 53) t; long = at_least } in
          finite (full→binary64 s m e f (low at_least h)) (the_float x s m e f (round-fits binary64 s n (d * 2 ^ 1074)) v)

      over : T (not (ltb m (2 ^ 53))) → Rounds s x (some (binary s (2 ^ 52) (suc e)))
      over t =
          let l : 2 ^ 53 ≤ m = nltb→le m (2 ^ 53) t in
          let q : m ≡ 2 ^ 53 = omega (arith, l, at_most) in
          let f : Full (2 ^ 52) (suc e) = record { short = tt·lt; long = inr (le_refl (2 ^ 52)) } in
          let w : m * 2 ^ e ≡ 2 ^ 52 * 2 ^ suc e = ap (λ k. k * 2 ^ e) q ∙ mul_assoc (2 ^ 52) 2 (2 ^ e) ∙ ap (λ k. 2 ^ 52 * k) (mul_comm 2 (2 ^ e) ∙ sym (pow-suc 2 e)) in
          let b = under 53 (mul-le-mul_right (2 ^ e) l) h in
          finite (full→binary64 s (2 ^ 52) (suc e) f (omega (arith, b)))
          (the_float x s (2 ^ 52) (suc e) f (round-fits binary64 s n (d * 2 ^ 1074)) (subst (λ k. HasValue x s k (2 ^ 1074)) w v))
        where
          tt·lt : 2 ^ 52 < 2 ^ 53
          tt·lt = omega arith

  large : T (not (ltb (m * 2 ^ e) (2 ^ 2098))) → x ≡ inf s
  unfolding units
  large t = in_units s n d D ∙ cond_no (ltb (m * 2 ^ e) (2 ^ 2098)) (odd 54 s m e 1074) (inf s) t

  pub rounds : Rounds s (Ieee.round binary64 s n (d * 2 ^ 1074)) (rounded s n d)
  unfolding rounded
  rounds = by-if (Rounds s x) (ltb (m * 2 ^ e) (2 ^ 2098)) (some (carried s m e)) none (λ t. fine (ltb→lt (m * 2 ^ e) (2 ^ 2098) t)) (λ t. infinite (large t))

rounds_binary64 : {s : Bool} {x : Float} {o : Option Real} {r : Real} → Rounds s x o → o ≡ some r → T (is_binary64 r)
rounds_binary64 {r = k} (finite {r = j} p i) w = subst (λ z. T (is_binary64 z)) (some-injective j k w) p
rounds_binary64 {r = k} (infinite i) w = absurd (none-ne-some k w)

pub rounded_binary64 : (s : Bool) (n d : ℕ) (r : Real) → 0 < d → rounded s n d ≡ some r → T (is_binary64 r)
rounded_binary64 s n d r h e = rounds_binary64 (rounds s n d h) e
