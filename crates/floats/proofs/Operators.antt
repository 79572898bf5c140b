-- f64's operators on finite operands: none gives a NaN, unless the divisor is zero. Assumes nothing.
use mathlib.Core.Path.{◌≡◌, refl, sym, ap, ◌∙◌, subst}
use mathlib.Core.Bool.{Bool, true, false, not, ◌&&◌, ◌||◌, cond, beq, true≢false}
use Prim.Native.Nat.{ℕ, zero, suc, ◌+◌, ◌-◌, ◌*◌, ◌/◌, ◌%◌, ◌^◌, ◌<◌, compare}
use native.Mathlib.Nat.{mul-pos, zero-mul, mul-one, zero-lt-suc}
use native.Mathlib.Omega.{arith}
use lib.IntN.{ℤ}
use lib.Dec.{T, ltb, eqb, eqb→eq}
use lib.Pow.{pow_pos}
use lib.Ieee as Ieee
use lib.Ieee.{Float, nan, inf, fin, binary64, up, down, odd, units, of_bits, is_nan}
use lib.Ieee.Exact.{HasValue}
use lib.Ieee.Fits.{up_pos, down_pos}
use lib.Ieee.Scale.{finite}
use borrow.Author.Tests.{eq-eqb}
use Rattle.laws.proofs.Tests.{test_same, and_l}
use Rattle.reals.specs.Reals.{Real, binary, is_binary64, is_zero}
use Rattle.reals.specs.Floats.{f64_of}
use Rattle.reals.proofs.Floats.{the_value}

-- ---- no operator gives a NaN from finite numbers, but 0 / 0

odd_number : (d : ℕ) (s : Bool) (q k l : ℕ) → T (not (is_nan (odd d s q k l)))
unfolding odd is_nan
odd_number d s zero k l = tt
odd_number d s (suc q) k l = tt

either_number : (b : Bool) (x y : Float) → T (not (is_nan x)) → T (not (is_nan y)) → T (not (is_nan (cond b x y)))
either_number true x y p q = p
either_number false x y p q = q

inf_number : (s : Bool) → T (not (is_nan (inf s)))
unfolding is_nan
inf_number s = tt

units_number : (s : Bool) (q k : ℕ) → T (not (is_nan (units binary64 s q k)))
unfolding units
units_number s q k = either_number (ltb (q * 2 ^ k) (2 ^ 2098)) (odd 54 s q k 1074) (inf s) (odd_number 54 s q k 1074) (inf_number s)

round_number : (s : Bool) (a c : ℕ) → T (not (is_nan (Ieee.round binary64 s a c)))
unfolding Ieee.round
round_number s a c =
    let n = a * 2 ^ 1074 in
    let k = Ieee.size (n / c) - 53 in
    let u = c * 2 ^ k in
    units_number s (Ieee.nearest (n / u) (compare (n % u * 2) u)) k

sum_number : (s : Bool) (a : ℕ) (t : Bool) (b c : ℕ) → T (not (is_nan (Ieee.sum binary64 s a t b c)))
unfolding Ieee.sum
sum_number s a t b c =
    either_number (beq s t) _ _ (round_number s (a + b) c)
    (either_number (ltb a b) _ _ (round_number t (b - a) c) (round_number (s && ltb b a) (a - b) c))

pub add_number : (x y : Float) → T (finite x) → T (finite y) → T (not (is_nan (Ieee.add binary64 x y)))
unfolding Ieee.add
add_number nan y p q = absurd p
add_number (inf s) y p q = absurd p
add_number (fin s m e) nan p q = absurd q
add_number (fin s m e) (inf t) p q = absurd q
add_number (fin s m e) (fin t n d) p q = sum_number s (m * up e * down d) t (n * up d * down e) (down e * down d)

neg_finite : (x : Float) → T (finite x) → T (finite (Ieee.neg x))
unfolding Ieee.neg
neg_finite nan p = p
neg_finite (inf s) p = p
neg_finite (fin s m e) p = tt

pub sub_number : (x y : Float) → T (finite x) → T (finite y) → T (not (is_nan (Ieee.sub binary64 x y)))
unfolding Ieee.sub
sub_number x y p q = add_number x (Ieee.neg y) p (neg_finite y q)

pub mul_number : (x y : Float) → T (finite x) → T (finite y) → T (not (is_nan (Ieee.mul binary64 x y)))
unfolding Ieee.mul
mul_number nan y p q = absurd p
mul_number (inf s) y p q = absurd p
mul_number (fin s m e) nan p q = absurd q
mul_number (fin s m e) (inf t) p q = absurd q
mul_number (fin s m e) (fin t n d) p q = round_number (not (beq s t)) (m * up e * (n * up d)) (down e * down d)

-- ---- the test for zero

-- 0.0, by its bits
abbrev pub nought : Float
nought = of_bits binary64 0

level_zero : (s : Bool) (m : ℕ) (e : ℤ) → Ieee.eq (fin s m e) nought ≡ eqb m 0
unfolding Ieee.eq of_bits
level_zero s m e = test_same (eqb (m * up e * 1) (0 * 1 * down e) && (beq s false || eqb (m * up e * 1) 0)) (eqb m 0) forth back
  where
    z : 0 * 1 * down e ≡ 0
    z = zero-mul (down e)

    forth : T (eqb (m * up e * 1) (0 * 1 * down e) && (beq s false || eqb (m * up e * 1) 0)) → T (eqb m 0)
    forth t = some m refl (eqb→eq (m * up e * 1) (0 * 1 * down e) (and_l (eqb (m * up e * 1) (0 * 1 * down e)) (beq s false || eqb (m * up e * 1) 0) t))
      where
        some : (k : ℕ) → k ≡ m → m * up e * 1 ≡ 0 * 1 * down e → T (eqb m 0)
        some zero w q = subst (λ j. T (eqb j 0)) w tt
        some (suc k) w q =
            let a : 0 < m * up e = mul-pos (subst (λ j. 0 < j) w (pow-suc k)) (up_pos e) in
            let b : m * up e ≡ 0 = sym (mul-one (m * up e)) ∙ q ∙ z in
            absurd (omega (arith, a, b))
          where
            pow-suc : (k : ℕ) → 0 < suc k
            pow-suc k = omega arith

    back : T (eqb m 0) → T (eqb (m * up e * 1) (0 * 1 * down e) && (beq s false || eqb (m * up e * 1) 0))
    back t =
        let w = eqb→eq m 0 t in
        let a : m * up e * 1 ≡ 0 = mul-one (m * up e) ∙ ap (λ j. j * up e) w ∙ zero-mul (up e) in
        both (eqb (m * up e * 1) (0 * 1 * down e)) (beq s false) (eqb (m * up e * 1) 0) (eq-eqb (m * up e * 1) (0 * 1 * down e) (a ∙ sym z)) (eq-eqb (m * up e * 1) 0 a)
      where
        both : (p q r : Bool) → p ≡ true → r ≡ true → T (p && (q || r))
        both true true r i j = tt
        both true false true i j = tt
        both true false false i j = absurd (true≢false (sym j))
        both false q r i j = absurd (true≢false (sym i))

div_rounds : (s : Bool) (m : ℕ) (e : ℤ) (t : Bool) (n : ℕ) (d : ℤ) → eqb n 0 ≡ false → T (not (is_nan (Ieee.div binary64 (fin s m e) (fin t n d))))
unfolding Ieee.div
div_rounds s m e t n d w =
    let v = not (beq s t) in
    subst (λ b. T (not (is_nan (cond b (cond (eqb m 0) nan (inf v)) (Ieee.round binary64 v (m * up e * down d) (n * up d * down e)))))) (sym w)
    (round_number v (m * up e * down d) (n * up d * down e))

pub div_number : (x y : Float) → T (finite x) → T (finite y) → Ieee.eq y nought ≡ false → T (not (is_nan (Ieee.div binary64 x y)))
div_number nan y p q z = absurd p
div_number (inf s) y p q z = absurd p
div_number (fin s m e) nan p q z = absurd q
div_number (fin s m e) (inf t) p q z = absurd q
div_number (fin s m e) (fin t n d) p q z = div_rounds s m e t n d (sym (level_zero t n d) ∙ z)

-- a float with a value is zero where the value is
zero_value : (x : Float) (s : Bool) (a c : ℕ) → 0 < c → HasValue x s a c → Ieee.eq x nought ≡ eqb a 0
zero_value nan s a c C v = absurd v
zero_value (inf t) s a c C v = absurd v
zero_value (fin t m e) s a c C v = level_zero t m e ∙ test_same (eqb m 0) (eqb a 0) forth back
  where
    forth : T (eqb m 0) → T (eqb a 0)
    forth h =
        let w : a * down e ≡ 0 = sym v.1 ∙ ap (λ k. k * up e * c) (eqb→eq m 0 h) ∙ ap (λ k. k * c) (zero-mul (up e)) ∙ zero-mul c in
        at a w
      where
        at : (a : ℕ) → a * down e ≡ 0 → T (eqb a 0)
        at zero w = tt
        at (suc a) w = let k : 0 < suc a * down e = mul-pos (zero-lt-suc a) (down_pos e) in absurd (omega (arith, k, w))

    back : T (eqb a 0) → T (eqb m 0)
    back h =
        let w : m * up e * c ≡ 0 = v.1 ∙ ap (λ k. k * down e) (eqb→eq a 0 h) ∙ zero-mul (down e) in
        at m w
      where
        at : (m : ℕ) → m * up e * c ≡ 0 → T (eqb m 0)
        at zero w = tt
        at (suc m) w = let k : 0 < suc m * up e * c = mul-pos (mul-pos (zero-lt-suc m) (up_pos e)) C in absurd (omega (arith, k, w))

pub zero_is : (r : Real) → T (is_binary64 r) → Ieee.eq (f64_of r) nought ≡ is_zero r
unfolding is_zero
zero_is (binary s m e) p = zero_value (f64_of (binary s m e)) s (m * 2 ^ e) (2 ^ 1074) (pow_pos 1074) (the_value s m e p) ∙ test_same (eqb (m * 2 ^ e) 0) (eqb m 0) (forth m) back
  where
    forth : (m : ℕ) → T (eqb (m * 2 ^ e) 0) → T (eqb m 0)
    forth zero t = tt
    forth (suc m) t = let k : 0 < suc m * 2 ^ e = mul-pos (zero-lt-suc m) (pow_pos e) in let w = eqb→eq (suc m * 2 ^ e) 0 t in absurd (omega (arith, k, w))

    back : T (eqb m 0) → T (eqb (m * 2 ^ e) 0)
    back t = subst (λ k. T (eqb k 0)) (sym (ap (λ k. k * 2 ^ e) (eqb→eq m 0 t) ∙ zero-mul (2 ^ e))) tt
