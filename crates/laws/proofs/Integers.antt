-- Whole numbers as differences of natural numbers, which `omega` reads. Assumes nothing.
use mathlib.Core.Path.{◌≡◌, refl}
use mathlib.Core.Bool.{Bool, true, false, cond}
use Prim.Native.Nat.{ℕ, zero, suc, ◌+◌, ◌-◌}
use native.Mathlib.Omega.{arith}
use lib.IntN.{ℤ, pos, negsuc, neg_ℤ, sub_ℕ, ◌+ℤ◌}
use lib.Dec.{ltb}
use borrow.Author.Tests.{ltb-true, ltb-false}

-- z is p - q
abbrev pub Diff : ℤ → ℕ → ℕ → Type 0
Diff (pos n) p q = p ≡ q + n
Diff (negsuc n) p q = q ≡ p + suc n

shift : (z : ℤ) (p q p' q' : ℕ) → Diff z p q → p + q' ≡ p' + q → Diff z p' q'
shift (pos n) p q p' q' d e = omega arith
shift (negsuc n) p q p' q' d e = omega arith

sub_by : (m n : ℕ) (b : Bool) → ltb m n ≡ b → Diff (cond b (negsuc (n - suc m)) (pos (m - n))) m n
sub_by m n true e = let h = ltb-true m n e in omega arith
sub_by m n false e = let h = ltb-false m n e in omega arith

pub add_diff : (x y : ℤ) (a b c d : ℕ) → Diff x a b → Diff y c d → Diff (x +ℤ y) (a + c) (b + d)
add_diff (pos m) (pos n) a b c d p q = omega arith
add_diff (pos m) (negsuc n) a b c d p q = shift (sub_ℕ m (suc n)) m (suc n) (a + c) (b + d) (sub_by m (suc n) (ltb m (suc n)) refl) (omega arith)
add_diff (negsuc m) (pos n) a b c d p q = shift (sub_ℕ n (suc m)) n (suc m) (a + c) (b + d) (sub_by n (suc m) (ltb n (suc m)) refl) (omega arith)
add_diff (negsuc m) (negsuc n) a b c d p q = omega arith

pub neg_diff : (x : ℤ) (a b : ℕ) → Diff x a b → Diff (neg_ℤ x) b a
neg_diff (pos zero) a b d = omega arith
neg_diff (pos (suc n)) a b d = omega arith
neg_diff (negsuc n) a b d = omega arith
