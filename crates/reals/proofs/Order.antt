-- `less` is the order of numbers, and Integers are ordered among numbers as among themselves. Assumes nothing.
use mathlib.Core.Path.{◌≡◌, refl, sym, ap, ◌∙◌}
use mathlib.Core.Bool.{Bool, true, false}
use Prim.Native.Nat.compare
use Prim.Native.Nat.{Ordering}
use Prim.Native.Nat.{ℕ, zero, suc, ◌+◌, ◌*◌, ◌^◌, ◌<◌, compare}
use native.Mathlib.Nat.{mul-pos, mul-lt-mul_of_pos_right, zero-lt-suc}
use native.Mathlib.Omega.{arith}
use lib.IntN.{ℤ, pos, negsuc, neg_ℤ}
use lib.Dec.{T, ltb}
use lib.Pow.{pow_pos}
use borrow.Author.Tests.{lt-ltb, le-ltb}
use Rattle.laws.proofs.Orders.{compare-lt, compare-gt, compare-eq, compare_like, Three, less, same, over, three}
use Rattle.reals.specs.Reals.{Real, binary, less_by, less as less_of, Number, int, real, signed, widen, kept, units, order_int, by_number, is_less, lesser}
use Rattle.reals.proofs.Words.{units_widen}

-- ---- `less`

test_order : (a b : ℕ) → ltb a b ≡ is_less (compare a b)
unfolding is_less
test_order a b = go (three a b)
  where
    go : Three a b → ltb a b ≡ is_less (compare a b)
    go (less l) = lt-ltb a b l ∙ sym (ap is_less (compare-lt a b l))
    go (same e) = le-ltb a b (omega (arith, e)) ∙ sym (ap is_less (compare-eq a b e))
    go (over l) = le-ltb a b (omega (arith, l)) ∙ sym (ap is_less (compare-gt a b l))

by_order : (s t : Bool) (a b : ℕ) → less_by s a t b ≡ is_less (order_int (signed s a) (signed t b))
unfolding less_by signed order_int is_less
by_order false false a b = test_order a b
by_order false true zero zero = sym (ap is_less compare.zero-zero)
by_order false true (suc a) zero = sym (ap is_less (compare.suc-zero a))
by_order false true a (suc b) = refl
by_order true false zero zero = test_order 0 (0 + 0)
by_order true false zero (suc b) = lt-ltb 0 (0 + suc b) (omega arith) ∙ sym (ap is_less (compare.zero-suc b))
by_order true false (suc a) b = lt-ltb 0 (suc a + b) (omega arith)
by_order true true zero zero = test_order 0 0
by_order true true zero (suc b) = le-ltb (suc b) 0 (omega arith)
by_order true true (suc a) zero = lt-ltb 0 (suc a) (omega arith)
by_order true true (suc a) (suc b) = test_order (suc b) (suc a) ∙ ap is_less (compare.suc-suc b a)

less_real : (x y : Real) → less_of x y ≡ is_less (order_int (units (real x)) (units (real y)))
unfolding less_of units
less_real (binary s m e) (binary t n d) = by_order s t (m * 2 ^ e) (n * 2 ^ d)

pub less_order : (x y : Number) → T (kept x) → T (kept y) → lesser x y ≡ is_less (by_number x y)
unfolding lesser by_number
less_order x y p q =
    less_real (widen x) (widen y)
    ∙ ap (λ k. is_less (order_int k (units (real (widen y))))) (sym (units_widen x p))
    ∙ ap (λ k. is_less (order_int (units x) k)) (sym (units_widen y q))

-- ---- Integers

abbrev U : ℕ
U = 2 ^ 1074

some_units : (n : ℕ) → 0 < suc n * U
some_units n = mul-pos (zero-lt-suc n) (pow_pos 1074)

scaled : (a b : ℕ) → compare (a * U) (b * U) ≡ compare a b
scaled a b = compare_like a b (a * U) (b * U) (λ l. mul-lt-mul_of_pos_right l (pow_pos 1074)) (λ e. ap (λ k. k * U) e) (λ l. mul-lt-mul_of_pos_right l (pow_pos 1074))

above : (a k : ℕ) → 0 < k → order_int (pos a) (neg_ℤ (pos k)) ≡ Ordering.gt
unfolding order_int
above a zero h = absurd (omega (arith, h))
above a (suc k) h = refl

below : (k b : ℕ) → 0 < k → order_int (neg_ℤ (pos k)) (pos b) ≡ Ordering.lt
unfolding order_int
below zero b h = absurd (omega (arith, h))
below (suc k) b h = refl

both_below_lem : (j k : ℕ) → 0 < j → 0 < k → order_int (neg_ℤ (pos j)) (neg_ℤ (pos k)) ≡ compare k j
unfolding order_int
both_below_lem zero k h l = absurd (omega (arith, h))
both_below_lem (suc j) zero h l = absurd (omega (arith, l))
both_below_lem (suc j) (suc k) h l = sym (compare.suc-suc k j)

pub order_integers : (x y : ℤ) → by_number (int x) (int y) ≡ order_int x y
unfolding by_number units order_int
order_integers (pos a) (pos b) = scaled a b
order_integers (pos a) (negsuc b) = above (a * U) (suc b * U) (some_units b)
order_integers (negsuc a) (pos b) = below (suc a * U) (b * U) (some_units a)
order_integers (negsuc a) (negsuc b) = both_below_lem (suc a * U) (suc b * U) (some_units a) (some_units b) ∙ scaled (suc b) (suc a) ∙ compare.suc-suc b a
