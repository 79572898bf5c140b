-- Integers held with their bias: what the proofs of the arithmetic cite. Assumes nothing.
use mathlib.Core.Path.{◌≡◌, refl, sym, ap, ◌∙◌}
use mathlib.Core.Bool.{Bool, true, false, beq}
use Prim.Native.Nat.{ℕ, zero, suc, ◌+◌, ◌-◌, ◌*◌, ◌/◌, ◌%◌, ◌<◌, ◌≤◌}
use native.Mathlib.Omega.{arith}
use native.Mathlib.Nat.{div-le_self, mod-lt, mul-le-mul}
use lib.IntN.{ℤ, pos, negsuc, neg_ℤ, nat_abs, ◌+ℤ◌, ◌-ℤ◌, ◌*ℤ◌}
use lib.Dec.{T, ltb, leb}
use borrow.Author.Tests.{lt-ltb, le-ltb, lt-leb, le-leb, ltb-true, ltb-false}
use Rattle.std.specs.Prelude.{if◌then◌else◌, Result as Fallible, Ok, Err}
use Rattle.laws.proofs.Integers.{Diff, add_diff, neg_diff}
use Rattle.reals.specs.Reals.{in_range, Result, no_result}
use Rattle.reals.proofs.Widening.{neg_range}
use Rattle.ocl.specs.Forms.{Arith, plus, minus, times, Division, div, modulo}
use Rattle.ocl.specs.Operations.{ranged, unless_zero, quotient, remainder, arithmetic, division}
use Rattle.values.specs.Cells.{bias}
use Rattle.values.specs.Integers.{num_of, Calculates, Divides, distance, alike, side, arith_of, division_of}
use Rattle.floats.specs.declared.NoNumber.{NoNumber}
use Rattle.floats.specs.declared.NoNumber.TheVariants.{OverRange, Undefined}

-- ---- in range, too low, too high

bias_diff : (x : ℤ) → T (in_range x) → Diff x (bias x) 2147483648
unfolding bias
bias_diff (pos n) h = omega arith
bias_diff (negsuc n) h = let l = neg_range n h in omega arith

is_ranged : (z : ℤ) (p q r : ℕ) → Diff z p q → q ≤ p + 2147483648 → p < q + 2147483648 → r + q ≡ p + 2147483648 → Ok r ≡ num_of (ranged z)
unfolding num_of ranged in_range bias
is_ranged (pos n) p q r d h k e = rw (lt-ltb n 2147483648 (omega arith)) (ap (λ (m : ℕ). Ok m) (omega arith))
is_ranged (negsuc n) p q r d h k e = rw (lt-ltb n 2147483648 (omega arith)) (ap (λ (m : ℕ). Ok m) (omega arith))

is_low : (z : ℤ) (p q : ℕ) → Diff z p q → p + 2147483648 < q → Err OverRange ≡ num_of (ranged z)
unfolding num_of ranged in_range
is_low (pos n) p q d h = absurd (omega arith)
is_low (negsuc n) p q d h = rw (le-ltb n 2147483648 (omega arith))

is_high : (z : ℤ) (p q : ℕ) → Diff z p q → q + 2147483648 ≤ p → Err OverRange ≡ num_of (ranged z)
unfolding num_of ranged in_range
is_high (pos n) p q d h = rw (le-ltb n 2147483648 (omega arith))
is_high (negsuc n) p q d h = absurd (omega arith)

-- ---- plus and minus

module _ {a b : ℕ} where
  sum : (x y : ℤ) → T (in_range x) → T (in_range y) → a ≡ bias x → b ≡ bias y → Diff (x +ℤ y) (a + b) (2147483648 + 2147483648)
  sum x y g h e f = rw (e, f) (add_diff x y (bias x) 2147483648 (bias y) 2147483648 (bias_diff x g) (bias_diff y h))

  pub plus_low : a + b < 2147483648 → Calculates plus a b (Err OverRange)
  unfolding arithmetic
  plus_low l = record { is = λ x y g h e f. is_low (x +ℤ y) _ _ (sum x y g h e f) (omega arith) }

  pub plus_high : 4294967296 + 2147483648 ≤ a + b → Calculates plus a b (Err OverRange)
  unfolding arithmetic
  plus_high l = record { is = λ x y g h e f. is_high (x +ℤ y) _ _ (sum x y g h e f) (omega arith) }

  pub plus_is : (n : ℕ) → n + 2147483648 ≡ a + b → n < 4294967296 → Calculates plus a b (Ok n)
  unfolding arithmetic
  plus_is n l m = record { is = λ x y g h e f. is_ranged (x +ℤ y) _ _ _ (sum x y g h e f) (omega arith) (omega arith) (omega arith) }

  dif : (x y : ℤ) → T (in_range x) → T (in_range y) → a ≡ bias x → b ≡ bias y → Diff (x -ℤ y) (a + 2147483648) (2147483648 + b)
  dif x y g h e f = rw (e, f) (add_diff x (neg_ℤ y) (bias x) 2147483648 2147483648 (bias y) (bias_diff x g) (neg_diff y (bias y) 2147483648 (bias_diff y h)))

  pub minus_low : a + 2147483648 < b → Calculates minus a b (Err OverRange)
  unfolding arithmetic
  minus_low l = record { is = λ x y g h e f. is_low (x -ℤ y) _ _ (dif x y g h e f) (omega arith) }

  pub minus_high : 4294967296 + b ≤ a + 2147483648 → Calculates minus a b (Err OverRange)
  unfolding arithmetic
  minus_high l = record { is = λ x y g h e f. is_high (x -ℤ y) _ _ (dif x y g h e f) (omega arith) }

  pub minus_is : (n : ℕ) → n + b ≡ a + 2147483648 → n < 4294967296 → Calculates minus a b (Ok n)
  unfolding arithmetic
  minus_is n l m = record { is = λ x y g h e f. is_ranged (x -ℤ y) _ _ _ (dif x y g h e f) (omega arith) (omega arith) (omega arith) }

-- ---- distances from 0

pub distance_some : (a : ℕ) → (a ≡ 2147483648 → ⊥) → 0 < distance a
unfolding distance
distance_some a h = omega arith

distance_small : (a : ℕ) → a < 4294967296 → distance a ≤ 2147483648
unfolding distance
distance_small a h = omega arith

pub quotient_small : (a m n : ℕ) → m ≡ distance a → a < 4294967296 → m / n ≤ 2147483648
quotient_small a m n u h = let x = div-le_self m n in let y = distance_small a h in omega arith

pub rest_small : (b m n : ℕ) → n ≡ distance b → b < 4294967296 → (b ≡ 2147483648 → ⊥) → m % n < 2147483648
rest_small b m n w h k = let v : 0 < n = rw w (distance_some b k) in let z = mod-lt m v in let y = distance_small b h in omega arith

pub product_small : (a b m n : ℕ) → m ≡ distance a → n ≡ distance b → a < 4294967296 → b < 4294967296 → m * n ≤ 2147483648 * 2147483648
product_small a b m n u w h k = let x : m ≤ 2147483648 = rw u (distance_small a h) in let y : n ≤ 2147483648 = rw w (distance_small b k) in mul-le-mul x y

same_side : (s t : Bool) (b : ℕ) → ltb b 2147483648 ≡ t → beq s t ≡ (if s then t else leb 2147483648 b)
same_side true true b e = refl
same_side true false b e = refl
same_side false true b e = sym (lt-leb 2147483648 b (ltb-true b 2147483648 e))
same_side false false b e = sym (le-leb 2147483648 b (ltb-false b 2147483648 e))

pub alike_is : (a b : ℕ) → beq (ltb a 2147483648) (ltb b 2147483648) ≡ alike a b
unfolding alike
alike_is a b = same_side (ltb a 2147483648) (ltb b 2147483648) b refl

-- an Integer by its sign
data Sign (a : ℕ) : ℤ → Type 0 where
  minus_sign : {n : ℕ} → a < 2147483648 → distance a ≡ suc n → Sign a (negsuc n)
  plus_sign : {n : ℕ} → 2147483648 ≤ a → distance a ≡ n → Sign a (pos n)

sign : {a : ℕ} (x : ℤ) → T (in_range x) → a ≡ bias x → Sign a x
unfolding bias distance
sign (pos n) g e = plus_sign {n = n} (omega arith) (omega arith)
sign (negsuc n) g e = let l = neg_range n g in minus_sign {n = n} (omega arith) (omega arith)

sign_distance : {a : ℕ} {x : ℤ} → Sign a x → nat_abs x ≡ distance a
sign_distance (minus_sign h u) = sym u
sign_distance (plus_sign h u) = sym u

-- ---- times, div and mod: an operation on the distances, and the signs decide on which side of 0 its result is

product_side : {a b : ℕ} {x y : ℤ} → Sign a x → Sign b y → x *ℤ y ≡ side (alike a b) (distance a * distance b)
unfolding side alike
product_side {a} {b} (minus_sign h u) (minus_sign k w) = rw (lt-ltb a 2147483648 h, lt-ltb b 2147483648 k, u, w)
product_side {a} {b} (minus_sign h u) (plus_sign k w) = rw (lt-ltb a 2147483648 h, le-ltb b 2147483648 k, u, w)
product_side {a} {b} (plus_sign h u) (minus_sign k w) = rw (le-ltb a 2147483648 h, lt-leb 2147483648 b k, u, w)
product_side {a} {b} (plus_sign h u) (plus_sign k w) = rw (le-ltb a 2147483648 h, le-leb 2147483648 b k, u, w)

quotient_side : {a b : ℕ} {x y : ℤ} → Sign a x → Sign b y → quotient x y ≡ side (alike a b) (distance a / distance b)
unfolding side alike quotient
quotient_side {a} {b} (minus_sign h u) (minus_sign k w) = rw (lt-ltb a 2147483648 h, lt-ltb b 2147483648 k, u, w)
quotient_side {a} {b} (minus_sign h u) (plus_sign k w) = rw (lt-ltb a 2147483648 h, le-ltb b 2147483648 k, u, w)
quotient_side {a} {b} (plus_sign h u) (minus_sign k w) = rw (le-ltb a 2147483648 h, lt-leb 2147483648 b k, u, w)
quotient_side {a} {b} (plus_sign h u) (plus_sign k w) = rw (le-ltb a 2147483648 h, le-leb 2147483648 b k, u, w)

remainder_side : {a b : ℕ} {x y : ℤ} → Sign a x → Sign b y → remainder x y ≡ side (leb 2147483648 a) (distance a % distance b)
unfolding side remainder
remainder_side {a} {b} (minus_sign h u) t = rw (lt-leb 2147483648 a h, u, sign_distance t)
remainder_side {a} {b} (plus_sign h u) t = rw (le-leb 2147483648 a h, u, sign_distance t)

pub above_zero : {up : Bool} {d : ℕ} → up ≡ true → d < 2147483648 → Ok (2147483648 + d) ≡ num_of (ranged (side up d))
unfolding side
above_zero {up} {d} e h = rw e (is_ranged (pos d) d 0 (2147483648 + d) (omega arith) (omega arith) (omega arith) (omega arith))

pub above_range : {up : Bool} {d : ℕ} → up ≡ true → 2147483648 ≤ d → Err OverRange ≡ num_of (ranged (side up d))
unfolding side
above_range {up} {d} e h = rw e (is_high (pos d) d 0 (omega arith) (omega arith))

pub below-zero : {up : Bool} {d : ℕ} → up ≡ false → d ≤ 2147483648 → Ok (2147483648 - d) ≡ num_of (ranged (side up d))
unfolding side
below-zero {up} {d} e h = rw e (is_ranged (neg_ℤ (pos d)) 0 d (2147483648 - d) (neg_diff (pos d) d 0 (omega arith)) (omega arith) (omega arith) (omega arith))

out_of_range : (up : Bool) (d : ℕ) → 2147483648 < d → Err OverRange ≡ num_of (ranged (side up d))
unfolding side
out_of_range true d h = is_high (pos d) d 0 (omega arith) (omega arith)
out_of_range false d h = is_low (neg_ℤ (pos d)) 0 d (neg_diff (pos d) d 0 (omega arith)) (omega arith)

module _ (a b : ℕ) {m n : ℕ} (u : m ≡ distance a) (w : n ≡ distance b) where
  pub times_is : {up : Bool} {r : Fallible ℕ NoNumber} → up ≡ alike a b → r ≡ num_of (ranged (side up (m * n))) → Calculates times a b r
  unfolding arithmetic
  times_is v z = record { is = λ x y g h e f. z ∙ ap (λ (i : ℤ). num_of (ranged i)) (rw (v, u, w) (sym (product_side (sign x g e) (sign y h f)))) }

  pub times_over : 2147483648 < m * n → Calculates times a b (Err OverRange)
  times_over l = times_is refl (out_of_range (alike a b) (m * n) l)

-- ---- a zero divisor

none_by : {b : ℕ} {y : ℤ} (r : Result) → Sign b y → b ≡ 2147483648 → unless_zero y r ≡ no_result
unfolding unless_zero distance
none_by r (minus_sign h u) e = absurd (omega arith)
none_by r (plus_sign {n = zero} h u) e = refl
none_by r (plus_sign {n = suc n} h u) e = absurd (omega arith)

some_by : {b : ℕ} {y : ℤ} (r : Result) → Sign b y → (b ≡ 2147483648 → ⊥) → unless_zero y r ≡ r
unfolding unless_zero distance
some_by r (minus_sign h u) e = refl
some_by r (plus_sign {n = zero} h u) e = absurd (omega arith)
some_by r (plus_sign {n = suc n} h u) e = refl

pub div_by_zero : {a b : ℕ} → b ≡ 2147483648 → Divides div a b (Err Undefined)
unfolding division num_of
div_by_zero z = record { is = λ x y g h e f. sym (ap num_of (none_by _ (sign y h f) z)) }

pub mod_by_zero : {a b : ℕ} → b ≡ 2147483648 → Divides modulo a b (Err Undefined)
unfolding division num_of
mod_by_zero z = record { is = λ x y g h e f. sym (ap num_of (none_by _ (sign y h f) z)) }

module _ (a b : ℕ) {m n : ℕ} (u : m ≡ distance a) (w : n ≡ distance b) (some : b ≡ 2147483648 → ⊥) where
  pub div_is : {up : Bool} {r : Fallible ℕ NoNumber} → up ≡ alike a b → r ≡ num_of (ranged (side up (m / n))) → Divides div a b r
  unfolding division
  div_is v z = record {
    is = λ x y g h e f.
        z ∙ ap (λ (i : ℤ). num_of (ranged i)) (rw (v, u, w) (sym (quotient_side (sign x g e) (sign y h f)))) ∙ sym (ap num_of (some_by _ (sign y h f) some));
  }

  pub mod_is : {r : Fallible ℕ NoNumber} → r ≡ num_of (ranged (side (leb 2147483648 a) (m % n))) → Divides modulo a b r
  unfolding division
  mod_is z = record {
    is = λ x y g h e f.
        z ∙ ap (λ (i : ℤ). num_of (ranged i)) (rw (u, w) (sym (remainder_side (sign x g e) (sign y h f)))) ∙ sym (ap num_of (some_by _ (sign y h f) some));
  }

-- ---- by number

pub arith_0 : {op : ℕ} → op ≡ 0 → arith_of op ≡ plus
unfolding arith_of
arith_0 e = rw e

pub arith_1 : {op : ℕ} → op ≡ 1 → arith_of op ≡ minus
unfolding arith_of
arith_1 e = rw e

pub arith_2 : (op : ℕ) → 2 ≤ op → arith_of op ≡ times
unfolding arith_of
arith_2 zero h = absurd (omega arith)
arith_2 (suc zero) h = absurd (omega arith)
arith_2 (suc (suc n)) h = refl

pub calculated_by : {o p : Arith} {a b : ℕ} {r : Fallible ℕ NoNumber} → p ≡ o → Calculates o a b r → Calculates p a b r
calculated_by e c = rw e c

pub division_0 : {op : ℕ} → op ≡ 0 → division_of op ≡ div
unfolding division_of
division_0 e = rw e

pub division_1 : (op : ℕ) → 1 ≤ op → division_of op ≡ modulo
unfolding division_of
division_1 zero h = absurd (omega arith)
division_1 (suc n) h = refl

pub divided_by : {o p : Division} {a b : ℕ} {r : Fallible ℕ NoNumber} → p ≡ o → Divides o a b r → Divides p a b r
divided_by e c = rw e c
