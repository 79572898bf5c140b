-- The order of cells where they lie, and so whether two values are the same. Assumes nothing.
use mathlib.Core.Path.{◌≡◌, refl, ◌∙◌}
use mathlib.Core.List.{List, [], ◌∷◌}
use Prim.Native.Nat.{ℕ, ◌+◌, ◌-◌, compare, Ordering}
use native.Mathlib.Omega.{arith}
use lib.ListN.{take, drop}
use lib.Seq.{slice}
use Rattle.std.proofs.lemmas.List.{drop-take}
use lib.Dec.{compare_is_eq}
use borrow.Author.Tests.{lt-ltb, le-ltb, eq-eqb, ne_eqb}
use Rattle.std.specs.declared.cmp.Ordering.{Ordering as Library}
use Rattle.std.specs.declared.cmp.Ordering.TheVariants.{Less, Equal, Greater}
use Rattle.std.specs.Ordering.{is_eq, ordering_then, nat_cmp}
use Rattle.std.specs.Cmp.Lexicographic.{slice_cmp}
use Rattle.laws.proofs.Orders.{compare-lt, compare-gt, compare-eq, Three, less, same, over, three}
use Rattle.ocl.specs.Values.{Value, then_order, order, same as same_value}
use Rattle.values.specs.Cells.{lex, ordering, enc, Fits}
use Rattle.values.specs.Meanings.{SameAt}
use Rattle.values.proofs.Encoding.{order_law}

-- ---- the order of cells is the library's order of slices

abbrev Answer : List ℕ → ℕ → ℕ → ℕ → ℕ → Library → Type 0
Answer S p n q m r = r ≡ ordering (lex (slice p (p + n) S) (slice q (q + m) S))

first_pair : (x y : ℕ) (a : Library) (b : Ordering) → a ≡ ordering b → Three x y → ordering_then (nat_cmp x y) a ≡ ordering (then_order (compare x y) b)
unfolding ordering then_order
first_pair x y a b e (less l) = rw (lt-ltb x y l, compare-lt x y l)
first_pair x y a b e (same l) = rw (le-ltb x y (omega arith), eq-eqb x y l, compare-eq x y l, e)
first_pair x y a b e (over l) = rw (le-ltb x y (omega arith), ne_eqb x y (λ e. omega arith), compare-gt x y l)

slices_ordering : (xs ys : List ℕ) → slice_cmp nat_cmp xs ys ≡ ordering (lex xs ys)
unfolding ordering lex
slices_ordering [] [] = refl
slices_ordering [] (y ∷ ys) = refl
slices_ordering (x ∷ xs) [] = refl
slices_ordering (x ∷ xs) (y ∷ ys) = first_pair x y _ _ (slices_ordering xs ys) (three x y)

pub compared : (S : List ℕ) (p n q m : ℕ) (r : Library) → r ≡ slice_cmp nat_cmp (take (p + n - p) (drop p S)) (take (q + m - q) (drop q S)) → Answer S p n q m r
compared S p n q m r e =
    let a : p + n - p ≡ n = omega arith in
    let b : q + m - q ≡ m = omega arith in
    e ∙ rw (a, b, drop-take p n S, drop-take q m S) (slices_ordering (take n (drop p S)) (take m (drop q S)))

-- ---- the same value

pub was_less : (o : Ordering) → ordering o ≡ Less → o ≡ Ordering.lt
unfolding ordering
was_less Ordering.lt e = refl
was_less Ordering.eq e = absurd (let z : ◌≡◌ {A = ℕ} 0 1 = cc in omega arith)
was_less Ordering.gt e = absurd (let z : ◌≡◌ {A = ℕ} 0 1 = cc in omega arith)

pub was_equal : (o : Ordering) → ordering o ≡ Equal → o ≡ Ordering.eq
unfolding ordering
was_equal Ordering.lt e = absurd (let z : ◌≡◌ {A = ℕ} 0 1 = cc in omega arith)
was_equal Ordering.eq e = refl
was_equal Ordering.gt e = absurd (let z : ◌≡◌ {A = ℕ} 0 1 = cc in omega arith)

pub was_greater : (o : Ordering) → ordering o ≡ Greater → o ≡ Ordering.gt
unfolding ordering
was_greater Ordering.lt e = absurd (let z : ◌≡◌ {A = ℕ} 0 1 = cc in omega arith)
was_greater Ordering.eq e = absurd (let z : ◌≡◌ {A = ℕ} 0 1 = cc in omega arith)
was_greater Ordering.gt e = refl

same_ordering : (o : Ordering) → is_eq (ordering o) ≡ compare_is_eq o
unfolding ordering
same_ordering Ordering.lt = refl
same_ordering Ordering.eq = refl
same_ordering Ordering.gt = refl

same_test : {v w : Value} → Fits v → Fits w → is_eq (ordering (lex (enc v) (enc w))) ≡ same_value v w
unfolding same_value
same_test {v} {w} f g = rw (order_law f g) (same_ordering (order v w))

pub same_at : {S : List ℕ} {p n q m : ℕ} {r : Library} → Answer S p n q m r → SameAt S p n q m (is_eq r)
same_at a = record { is = λ v w f g e d. rw (a, e, d) (same_test f g) }
