-- Laws of comparisons, and that numbers are compared by a total order. Assumes nothing.
use mathlib.Core.Path.{◌≡◌, refl, sym, ap, ◌∙◌}
use mathlib.Core.Bool.{Bool, true, false}
use Prim.Native.Nat.compare
use Prim.Native.Nat.{ℕ, zero, suc, ◌<◌, compare, Ordering}
use native.Mathlib.Omega.{arith}
use lib.Dec.{ltb}
use borrow.Author.Tests.{ltb-true, ltb-false}
use Rattle.laws.specs.Orders.{reverse, TotalOrder}

-- ---- compare

pub compare-lt : (a b : ℕ) → a < b → compare a b ≡ Ordering.lt
compare-lt zero zero h = absurd (omega arith)
compare-lt zero (suc b) h = compare.zero-suc b
compare-lt (suc a) zero h = absurd (omega arith)
compare-lt (suc a) (suc b) h = compare.suc-suc a b ∙ compare-lt a b (omega arith)

pub compare-gt : (a b : ℕ) → b < a → compare a b ≡ Ordering.gt
compare-gt zero zero h = absurd (omega arith)
compare-gt zero (suc b) h = absurd (omega arith)
compare-gt (suc a) zero h = compare.suc-zero a
compare-gt (suc a) (suc b) h = compare.suc-suc a b ∙ compare-gt a b (omega arith)

pub compare-eq : (a b : ℕ) → a ≡ b → compare a b ≡ Ordering.eq
compare-eq zero zero h = compare.zero-zero
compare-eq zero (suc b) h = absurd (omega arith)
compare-eq (suc a) zero h = absurd (omega arith)
compare-eq (suc a) (suc b) h = compare.suc-suc a b ∙ compare-eq a b (omega arith)

-- the three cases of two numbers
pub data Three (a b : ℕ) : Type 0 where
  less : a < b → Three a b
  same : a ≡ b → Three a b
  over : b < a → Three a b

three_by : (a b : ℕ) (p q : Bool) → ltb a b ≡ p → ltb b a ≡ q → Three a b
three_by a b true q e f = less (ltb-true a b e)
three_by a b false true e f = over (ltb-true b a f)
three_by a b false false e f = same (let x = ltb-false a b e in let y = ltb-false b a f in omega arith)

pub three : (a b : ℕ) → Three a b
three a b = three_by a b (ltb a b) (ltb b a) refl refl

-- ---- orderings are three

pub lt_not_eq : Ordering.lt ≡ Ordering.eq → ⊥
lt_not_eq e = let z : ◌≡◌ {A = ℕ} 0 1 = cc in omega arith

pub gt_not_eq : Ordering.gt ≡ Ordering.eq → ⊥
gt_not_eq e = let z : ◌≡◌ {A = ℕ} 0 1 = cc in omega arith

pub gt_not_lt : Ordering.gt ≡ Ordering.lt → ⊥
gt_not_lt e = let z : ◌≡◌ {A = ℕ} 0 1 = cc in omega arith

-- what is its own reverse says the same
pub reverse_same : (o : Ordering) → o ≡ reverse o → o ≡ Ordering.eq
unfolding reverse
reverse_same Ordering.lt e = absurd (gt_not_lt (sym e))
reverse_same Ordering.eq e = refl
reverse_same Ordering.gt e = absurd (gt_not_lt e)

pub compare_same : (a b : ℕ) → compare a b ≡ Ordering.eq → a ≡ b
compare_same a b h = go (three a b)
  where
    go : Three a b → a ≡ b
    go (less l) = absurd (lt_not_eq (sym (compare-lt a b l) ∙ h))
    go (same e) = e
    go (over l) = absurd (gt_not_eq (sym (compare-gt a b l) ∙ h))

-- two pairs that stand alike
pub compare_like : (a b m n : ℕ) → (a < b → m < n) → (a ≡ b → m ≡ n) → (b < a → n < m) → compare m n ≡ compare a b
compare_like a b m n f g h = by (three a b)
  where
    by : Three a b → compare m n ≡ compare a b
    by (less l) = compare-lt m n (f l) ∙ sym (compare-lt a b l)
    by (same l) = compare-eq m n (g l) ∙ sym (compare-eq a b l)
    by (over l) = compare-gt m n (h l) ∙ sym (compare-gt a b l)

pub compare_turned : (a b : ℕ) → compare b a ≡ reverse (compare a b)
unfolding reverse
compare_turned a b = go (three a b)
  where
    go : Three a b → compare b a ≡ reverse (compare a b)
    go (less l) = rw (compare-lt a b l) (compare-gt b a l)
    go (same e) = rw (compare-eq a b e) (compare-eq b a (sym e))
    go (over l) = rw (compare-gt a b l) (compare-lt b a l)

-- ---- how x against z follows from x against y and y against z: from less and more nothing does

pub data Chain : Ordering → Ordering → Ordering → Type 0 where
  left : {p : Ordering} → Chain p Ordering.eq p
  right : {p : Ordering} → Chain Ordering.eq p p
  twice : {p : Ordering} → Chain p p p
  up_down : {r : Ordering} → Chain Ordering.lt Ordering.gt r
  down_up : {r : Ordering} → Chain Ordering.gt Ordering.lt r

pub chain_swap : {p q r : Ordering} → Chain p q r → Chain q p r
chain_swap left = right
chain_swap right = left
chain_swap twice = twice
chain_swap up_down = down_up
chain_swap down_up = up_down

pub chain_lt : (q : Ordering) → Chain Ordering.lt q Ordering.lt
chain_lt Ordering.lt = twice
chain_lt Ordering.eq = left
chain_lt Ordering.gt = up_down

pub chain_gt : (q : Ordering) → Chain Ordering.gt q Ordering.gt
chain_gt Ordering.lt = down_up
chain_gt Ordering.eq = left
chain_gt Ordering.gt = twice

-- so less goes on
pub chain_less : (p q : Ordering) {r : Ordering} → Chain p q r → p ≡ Ordering.lt → q ≡ Ordering.lt → r ≡ Ordering.lt
chain_less p q left e f = e
chain_less p q right e f = f
chain_less p q twice e f = e
chain_less p q up_down e f = absurd (gt_not_lt f)
chain_less p q down_up e f = absurd (gt_not_lt e)

pub compare_chain : (a b c : ℕ) → Chain (compare a b) (compare b c) (compare a c)
compare_chain a b c = go (three a b) (three b c)
  where
    go : Three a b → Three b c → Chain (compare a b) (compare b c) (compare a c)
    go (less l) (less m) = rw (compare-lt a b l, compare-lt b c m, compare-lt a c (omega arith)) twice
    go (less l) (same m) = rw (compare-lt a b l, compare-eq b c m, compare-lt a c (omega arith)) left
    go (less l) (over m) = rw (compare-lt a b l, compare-gt b c m) up_down
    go (same l) (less m) = rw (compare-eq a b l, compare-lt b c m, compare-lt a c (omega arith)) right
    go (same l) (same m) = rw (compare-eq a b l, compare-eq b c m, compare-eq a c (l ∙ m)) twice
    go (same l) (over m) = rw (compare-eq a b l, compare-gt b c m, compare-gt a c (omega arith)) right
    go (over l) (less m) = rw (compare-gt a b l, compare-lt b c m) down_up
    go (over l) (same m) = rw (compare-gt a b l, compare-eq b c m, compare-gt a c (omega arith)) left
    go (over l) (over m) = rw (compare-gt a b l, compare-gt b c m, compare-gt a c (omega arith)) twice

-- what is enough for a total order
pub total_order : {A : Type 0} (P : A → Type 0) (order : A → A → Ordering) → ((x y : A) → P x → P y → order x y ≡ Ordering.eq → x ≡ y)
    → ((x y : A) → order y x ≡ reverse (order x y)) → ((x y z : A) → Chain (order x y) (order y z) (order x z)) → TotalOrder P order
total_order P order one turn chain = record {
  same = λ x y p q. (one x y p q, λ e. ap (order x) (sym e) ∙ reverse_same (order x x) (turn x x));
  turned = turn;
  chained = λ x y z. chain_less (order x y) (order y z) (chain x y z);
}
