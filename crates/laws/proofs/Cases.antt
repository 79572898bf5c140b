-- Numbers case by case: those below a bound, the least, successors. Assumes nothing.
use mathlib.Core.Path.{◌≡◌, refl, ap}
use mathlib.Core.Bool.{Bool, true, false}
use Prim.Native.Nat.{ℕ, zero, suc, ◌+◌, ◌-◌, ◌<◌, ◌≤◌}
use native.Mathlib.Omega.{arith}
use borrow.Author.Tests.{eq-eqb, ne_eqb, eqb-true, eqb-false, le-leb}
use lib.Dec.{eqb, leb}

-- a proof for each number below a bound
unfoldable pub AllBelow : (ℕ → Type 0) → ℕ → Type 0
AllBelow P zero = Unit
AllBelow P (suc n) = AllBelow P n × P n

pub all-below : (P : ℕ → Type 0) (n : ℕ) → AllBelow P n → (k : ℕ) → k < n → P k
unfolding AllBelow
all-below P zero h k l = absurd (omega arith)
all-below P (suc n) h k l = go (eqb k n) refl (all-below P n h.0 k)
  where
    go : (b : Bool) → eqb k n ≡ b → (k < n → P k) → P k
    go true e ih = rw (eqb-true k n e) h.1
    go false e ih = ih (let q = eqb-false k n e in omega arith)

-- for each of n numbers from a on
pub from_below : (P : ℕ → Type 0) (a n : ℕ) → AllBelow (λ k. P (a + k)) n → (k : ℕ) → a ≤ k → k < a + n → P k
from_below P a n h k l m = let e : a + (k - a) ≡ k = omega arith in rw e at (all-below (λ j. P (a + j)) n h (k - a) (omega arith))

pub zero_least : (n : ℕ) → leb 0 n ≡ true
zero_least n = le-leb 0 n (omega arith)

pub eqb_suc : (a b : ℕ) → eqb (suc a) (suc b) ≡ eqb a b
eqb_suc a b = go (eqb a b) refl
  where
    go : (t : Bool) → eqb a b ≡ t → eqb (suc a) (suc b) ≡ t
    go true e = eq-eqb (suc a) (suc b) (ap suc (eqb-true a b e))
    go false e = ne_eqb (suc a) (suc b) (λ q. eqb-false a b e (omega arith))
