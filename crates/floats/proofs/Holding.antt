-- A finite f64 as a value holds it, by its bits. Assumes nothing.
use mathlib.Core.Path.{◌≡◌, refl, sym, ap, ◌∙◌, subst}
use mathlib.Core.Logic.{inl}
use mathlib.Core.Bool.{Bool, true, false, ◌&&◌, true≢false}
use Prim.Native.Nat.{ℕ, zero, suc, ◌+◌, ◌-◌, ◌*◌, ◌/◌, ◌%◌, ◌^◌, ◌≤◌, ◌<◌}
use native.Mathlib.Nat.{le_of_lt, lt_of_mul-lt-mul_right, div-add-mod', add-zero, mul-div_cancel, mul-mod_left}
use native.Mathlib.Omega.{arith}
use lib.IntN.{ℤ}
use lib.Dec.{T, ltb, eqb, ltb→lt, lt→ltb, eqb→eq}
use lib.Pow.{pow_pos}
use lib.Ieee.{Float, binary64, to_bits}
use lib.Ieee.Scale.{finite}
use borrow.Author.Tests.{ltb-false}
use Rattle.std.specs.Prelude.{if◌then◌else◌, Option as Optional, Some, None}
use Rattle.laws.specs.Integers.{bias}
use Rattle.laws.proofs.Tests.{and_l, and_r, test_fails, test_true}
use Rattle.laws.proofs.Orders.{Three, less, same, over, three}
use Rattle.reals.specs.Reals.{Real, binary, is_binary64, Number, int, real, signed, in_range, held_as, held}
use Rattle.reals.specs.Bits.{rank, bits}
use Rattle.reals.specs.Floats.{f64_of}
use Rattle.floats.specs.Meanings.{coded_of, Sound, units_at, whole_at, Holds}
use Rattle.floats.specs.declared.Number.{Number as Coded}
use Rattle.floats.specs.declared.Number.TheVariants as coded
use Rattle.reals.proofs.Full.{Full, binary64→full, binary64→low}
use Rattle.reals.proofs.Words.{rank_mono, rank_below, units_inj}
use Rattle.reals.proofs.Bits.{bits_of_float}
use Rattle.floats.proofs.Wholes.{high_ranked, units_ranked, whole_is}

abbrev U : ℕ
U = 2 ^ 1074

-- ---- units grow with the rank

record Rank (b : ℕ) : Type 0 where
  pub m : ℕ
  pub e : ℕ
  pub full : Full m e
  pub at : e * 2 ^ 52 + m ≡ b

ranked : (b : ℕ) → Rank b
ranked b = go (ltb b (2 ^ 52)) refl
  where
    go : (t : Bool) → ltb b (2 ^ 52) ≡ t → Rank b
    go true q = let l = ltb→lt b (2 ^ 52) (subst T (sym q) tt) in record { m = b; e = 0; full = record { short = omega (arith, l); long = inl refl }; at = omega arith }
    go false q = let r = high_ranked b (ltb-false b (2 ^ 52) q) in record { m = 2 ^ 52 + b % 2 ^ 52; e = b / 2 ^ 52 - 1; full = r.full; at = r.at }

rank_units : (b : ℕ) (r : Rank b) → units_at b ≡ r.m * 2 ^ r.e
rank_units b r = ap units_at (sym r.at) ∙ units_ranked r.m r.e r.full

units_mono : (b c : ℕ) → b < c → units_at b < units_at c
units_mono b c h = go (three (units_at b) (units_at c))
  where
    p : Rank b
    p = ranked b

    q : Rank c
    q = ranked c

    go : Three (units_at b) (units_at c) → units_at b < units_at c
    go (less l) = l
    go (same l) =
        let k = units_inj p.m p.e q.m q.e p.full q.full (sym (rank_units b p) ∙ l ∙ rank_units c q) in
        let x = p.at in let y = q.at in absurd (omega (arith, k, x, y, h))
    go (over l) =
        let k = rank_mono q.m q.e p.m p.e q.full p.full (subst (λ w. w < p.m * 2 ^ p.e) (rank_units c q) (subst (λ w. units_at c < w) (rank_units b p) l)) in
        let x = p.at in let y = q.at in absurd (omega (arith, k, x, y, h))

-- the bits of 2^31
at_limit : units_at 4746794007248502784 ≡ 2147483648 * U
unfolding units_at
at_limit = refl

under : (b n : ℕ) → units_at b ≡ n * U → b < 4746794007248502784 → n < 2147483648
under b n q h = lt_of_mul-lt-mul_right U (subst (λ k. k < 2147483648 * U) q (subst (λ k. units_at b < k) at_limit (units_mono b 4746794007248502784 h)))

past : (b n : ℕ) → units_at b ≡ n * U → 4746794007248502784 < b → 2147483648 < n
past b n q h = lt_of_mul-lt-mul_right U (subst (λ k. 2147483648 * U < k) q (subst (λ k. k < units_at b) at_limit (units_mono 4746794007248502784 b h)))

exact : (b n : ℕ) → units_at b ≡ n * U → b ≡ 4746794007248502784 → n ≡ 2147483648
exact b n q h = sym (mul-div_cancel n (pow_pos 1074)) ∙ ap (λ k. k / U) (sym q ∙ ap units_at h ∙ at_limit) ∙ mul-div_cancel 2147483648 (pow_pos 1074)

upto : (b n : ℕ) → units_at b ≡ n * U → b ≤ 4746794007248502784 → n ≤ 2147483648
upto b n q h = go (three b 4746794007248502784)
  where
    go : Three b 4746794007248502784 → n ≤ 2147483648
    go (less l) = le_of_lt (under b n q l)
    go (same l) = let k = exact b n q l in omega (arith, k)
    go (over l) = absurd (omega (arith, l, h))

from : (b n : ℕ) → units_at b ≡ n * U → 4746794007248502784 ≤ b → 2147483648 ≤ n
from b n q h = go (three b 4746794007248502784)
  where
    go : Three b 4746794007248502784 → 2147483648 ≤ n
    go (less l) = absurd (omega (arith, l, h))
    go (same l) = let k = exact b n q l in omega (arith, k)
    go (over l) = le_of_lt (past b n q l)

-- ---- what `whole` found

abbrev number_in_lem : Optional ℕ → ℕ
number_in_lem (Some k) = k
number_in_lem None = 0

abbrev found : Optional ℕ → Bool
found (Some k) = true
found None = false

whole_found : (b : ℕ) {n : ℕ} {w : Optional ℕ} → w ≡ whole_at b → w ≡ Some n → units_at b ≡ n * U
unfolding whole_at
whole_found b {n} i j = go (eqb (units_at b % U) 0) (eqb→eq (units_at b % U) 0) (sym i ∙ j)
  where
    go : (t : Bool) → (T t → units_at b % U ≡ 0) → (if t then Some (units_at b / U) else None) ≡ Some n → units_at b ≡ n * U
    go true h q = sym (div-add-mod' (units_at b) U) ∙ ap (λ j. units_at b / U * U + j) (h tt) ∙ add-zero (units_at b / U * U) ∙ ap (λ j. j * U) (ap number_in_lem q)
    go false h q = absurd (true≢false (sym (ap found q)))

no_whole : (b : ℕ) {w : Optional ℕ} → w ≡ whole_at b → w ≡ None → (n : ℕ) → units_at b ≡ n * U → ⊥
no_whole b i j n e = true≢false (ap found (sym (whole_is b n e) ∙ sym i ∙ j))

pub plus_room : (b : ℕ) {n : ℕ} {w : Optional ℕ} → b < 4746794007248502784 → w ≡ whole_at b → w ≡ Some n → 2147483648 + n < 18446744073709551616
plus_room b {n} l i j = let h = under b n (whole_found b i j) l in omega (arith, h)

pub minus_room : (b : ℕ) {n : ℕ} {w : Optional ℕ} → b ≤ 4746794007248502784 → w ≡ whole_at b → w ≡ Some n → n ≤ 2147483648
minus_room b {n} l i j = upto b n (whole_found b i j) l

-- ---- held

held_int : (s : Bool) (m e : ℕ) (n : ℕ) → m * 2 ^ e ≡ n * U → T (in_range (signed s n)) → held (binary s m e) ≡ int (signed s n)
unfolding held held_as
held_int s m e n q r =
    ap (λ k. held_as (eqb (k % U) 0 && in_range (signed s (k / U))) (signed s (k / U)) (binary s m e)) q
    ∙ ap (λ k. held_as (eqb k 0 && in_range (signed s (n * U / U))) (signed s (n * U / U)) (binary s m e)) (mul-mod_left n U)
    ∙ ap (λ k. held_as (in_range (signed s k)) (signed s k) (binary s m e)) (mul-div_cancel n (pow_pos 1074))
    ∙ ap (λ b. held_as b (signed s n) (binary s m e)) (test_true (in_range (signed s n)) r)

held_real : (s : Bool) (m e : ℕ) → ((n : ℕ) → m * 2 ^ e ≡ n * U → T (in_range (signed s n)) → ⊥) → held (binary s m e) ≡ real (binary s m e)
unfolding held held_as
held_real s m e h =
    ap (λ b. held_as b (signed s (m * 2 ^ e / U)) (binary s m e))
    (test_fails (eqb (m * 2 ^ e % U) 0 && in_range (signed s (m * 2 ^ e / U)))
    (λ t. h (m * 2 ^ e / U) (multiple (eqb→eq (m * 2 ^ e % U) 0 (and_l (eqb (m * 2 ^ e % U) 0) (in_range (signed s (m * 2 ^ e / U))) t))) (and_r (eqb (m * 2 ^ e % U) 0) (in_range (signed s (m * 2 ^ e / U))) t)))
  where
    multiple : m * 2 ^ e % U ≡ 0 → m * 2 ^ e ≡ m * 2 ^ e / U * U
    multiple z = sym (div-add-mod' (m * 2 ^ e) U) ∙ ap (λ j. m * 2 ^ e / U * U + j) z ∙ add-zero (m * 2 ^ e / U * U)

plus_range : (n : ℕ) → T (in_range (signed false n)) → n < 2147483648
unfolding in_range signed
plus_range n r = ltb→lt n 2147483648 r

minus_range : (n : ℕ) → T (in_range (signed true n)) → n ≤ 2147483648
unfolding in_range signed
minus_range zero r = omega arith
minus_range (suc n) r = ltb→lt n 2147483648 r

range_plus : (n : ℕ) → n < 2147483648 → T (in_range (signed false n))
unfolding in_range signed
range_plus n r = lt→ltb n 2147483648 r

range_minus : (n : ℕ) → n ≤ 2147483648 → T (in_range (signed true n))
unfolding in_range signed
range_minus zero r = tt
range_minus (suc n) r = lt→ltb n 2147483648 r

bias_plus : (n : ℕ) → 2147483648 + n ≡ bias (signed false n)
unfolding bias signed
bias_plus n = refl

bias_minus : (n : ℕ) → 2147483648 - n ≡ bias (signed true n)
unfolding bias signed
bias_minus zero = refl
bias_minus (suc n) = refl

int_as : {n : ℕ} (z : ℤ) → n ≡ bias z → coded.Integer n ≡ coded_of (int z)
unfolding coded_of
int_as z e = ap coded.Integer e

real_as : {x : Float} (r : Real) → x ≡ f64_of r → coded.Real x ≡ coded_of (real r)
unfolding coded_of
real_as r e = ap coded.Real e

-- z is held in place of x
held_as_lem : (s : Coded) {x z : Number} → z ≡ x → s ≡ coded_of z → s ≡ coded_of x
held_as_lem s e q = q ∙ ap coded_of e

-- ---- the sign by the bits

module _ (x : Float) (r : Coded) (ok : Sound r) where
  -- every Real that x is has the bits of x
  of_bits : (y : Real) → T (is_binary64 y) → x ≡ f64_of y → to_bits binary64 x ≡ bits y
  of_bits y p q = ap (to_bits binary64) q ∙ bits_of_float y p

  holds_plus : to_bits binary64 x < 2 ^ 63 → ((m e : ℕ) → Full m e → e * 2 ^ 52 + m ≡ to_bits binary64 x → x ≡ f64_of (binary false m e) → r ≡ coded_of (held (binary false m e))) → Holds x r
  unfolding bits rank
  holds_plus h g = record { sound = ok; is = at }
    where
      at : (y : Real) → T (is_binary64 y) → x ≡ f64_of y → r ≡ coded_of (held y)
      at (binary false m e) p q = let b = of_bits (binary false m e) p q in g m e (binary64→full false m e p) (omega (arith, b)) q
      at (binary true m e) p q = let b = of_bits (binary true m e) p q in absurd (omega (arith, b, h))

  holds_minus : 2 ^ 63 ≤ to_bits binary64 x → ((m e : ℕ) → Full m e → e * 2 ^ 52 + m ≡ to_bits binary64 x - 2 ^ 63 → x ≡ f64_of (binary true m e) → r ≡ coded_of (held (binary true m e))) → Holds x r
  unfolding bits rank
  holds_minus h g = record { sound = ok; is = at }
    where
      at : (y : Real) → T (is_binary64 y) → x ≡ f64_of y → r ≡ coded_of (held y)
      at (binary false m e) p q =
          let b = of_bits (binary false m e) p q in
          let k = rank_below m e (binary64→full false m e p) (binary64→low false m e p) in
          absurd (omega (arith, b, h, k))
      at (binary true m e) p q = let b = of_bits (binary true m e) p q in g m e (binary64→full true m e p) (omega (arith, b)) q

-- ---- the returns of `hold`

units_at_lem : (b m e : ℕ) → Full m e → e * 2 ^ 52 + m ≡ b → m * 2 ^ e ≡ units_at b
units_at_lem b m e f a = sym (units_ranked m e f) ∙ ap units_at a

module _ (x : Float) where
  abbrev b : ℕ
  b = to_bits binary64 x

  pub plus_int : {n : ℕ} {w : Optional ℕ} → b < 9223372036854775808 → b < 4746794007248502784 → w ≡ whole_at b → w ≡ Some n → Holds x (coded.Integer (2147483648 + n))
  plus_int {n} h l i j =
      let q = whole_found b i j in
      let k = under b n q l in
      holds_plus x (coded.Integer (2147483648 + n)) (omega (arith, k)) h
      (λ m e f a v. held_as_lem (coded.Integer (2147483648 + n)) (sym (held_int false m e n (units_at_lem b m e f a ∙ q) (range_plus n k))) (int_as (signed false n) (bias_plus n)))

  pub minus_int : {n : ℕ} {w : Optional ℕ} → 9223372036854775808 ≤ b → b - 9223372036854775808 ≤ 4746794007248502784 → w ≡ whole_at (b - 9223372036854775808) → w ≡ Some n → Holds x (coded.Integer (2147483648 - n))
  minus_int {n} h l i j =
      let q = whole_found (b - 2 ^ 63) i j in
      let k = upto (b - 2 ^ 63) n q l in
      holds_minus x (coded.Integer (2147483648 - n)) (omega arith) h
      (λ m e f a v. held_as_lem (coded.Integer (2147483648 - n)) (sym (held_int true m e n (units_at_lem (b - 2 ^ 63) m e f a ∙ q) (range_minus n k))) (int_as (signed true n) (bias_minus n)))

  pub plus_no : {w : Optional ℕ} → T (finite x) → b < 9223372036854775808 → w ≡ whole_at b → w ≡ None → Holds x (coded.Real x)
  plus_no t h i j =
      holds_plus x (coded.Real x) t h
      (λ m e f a v. held_as_lem (coded.Real x) (sym (held_real false m e (λ n q r. no_whole b i j n (sym (units_at_lem b m e f a) ∙ q)))) (real_as (binary false m e) v))

  pub plus_far : T (finite x) → b < 9223372036854775808 → 4746794007248502784 ≤ b → Holds x (coded.Real x)
  plus_far t h l =
      holds_plus x (coded.Real x) t h
      (λ m e f a v. held_as_lem (coded.Real x) (sym (held_real false m e (λ n q r. let k = from b n (sym (units_at_lem b m e f a) ∙ q) l in let g = plus_range n r in omega (arith, k, g)))) (real_as (binary false m e) v))

  pub minus_no : {w : Optional ℕ} → T (finite x) → 9223372036854775808 ≤ b → w ≡ whole_at (b - 9223372036854775808) → w ≡ None → Holds x (coded.Real x)
  minus_no t h i j =
      holds_minus x (coded.Real x) t h
      (λ m e f a v. held_as_lem (coded.Real x) (sym (held_real true m e (λ n q r. no_whole (b - 2 ^ 63) i j n (sym (units_at_lem (b - 2 ^ 63) m e f a) ∙ q)))) (real_as (binary true m e) v))

  pub minus_far : T (finite x) → 9223372036854775808 ≤ b → 4746794007248502784 < b - 9223372036854775808 → Holds x (coded.Real x)
  minus_far t h l =
      holds_minus x (coded.Real x) t h
      (λ m e f a v. held_as_lem (coded.Real x) (sym (held_real true m e (λ n q r. let k = past (b - 2 ^ 63) n (sym (units_at_lem (b - 2 ^ 63) m e f a) ∙ q) l in let g = minus_range n r in omega (arith, k, g)))) (real_as (binary true m e) v))
