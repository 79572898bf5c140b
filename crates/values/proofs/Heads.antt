-- A value's first cell: the sorts have bands of cells that follow each other, the payload comes back from a cell, and two first
-- cells are ordered as the values' sorts and ranks are. Assumes nothing.
use mathlib.Core.Path.{◌≡◌, refl, sym, ap, ◌∙◌}
use mathlib.Core.Bool.{Bool, true, false}
use mathlib.Core.List.{◌∷◌}
use Prim.Native.Nat.{ℕ, zero, suc, ◌+◌, ◌*◌, ◌%◌, ◌<◌, ◌≤◌, compare, Ordering}
use native.Mathlib.Omega.{arith}
use lib.IntN.{ℤ}
use lib.Dec.{T}
use borrow.Author.Tests.{lt-ltb, le-ltb}
use Rattle.laws.proofs.Tests.{test_true}
use Rattle.laws.proofs.Orders.{compare-lt, compare-eq, compare-gt, Three, less, same, over, three, compare_like}
use Rattle.reals.specs.Reals.{Number, kept, order_int, by_number, in_range}
use Rattle.reals.proofs.Laws.{word_laws}
use Rattle.ocl.specs.Types.{Kind, set, sequence, bag, kind_code}
use Rattle.ocl.specs.Values.{Value, bool, num, obj, coll, Values, count, then_order, sort, of_bool, rank, members, head_order}
use Rattle.ocl.proofs.Ranges.{bias_small as ranged-small}
use Rattle.values.specs.Cells.{bit, bias, payload, head, enc, encs, Fits, fits_bool, fits_num, fits_obj, fits_coll, AllFit, fit_nil, kids}

-- ---- Integers

pub bias_small : (z : ℤ) → T (in_range z) → bias z < 4294967296
bias_small z h = ranged-small z (test_true (in_range z) h)

-- ---- parts of a value

pub members_fit : {v : Value} → Fits v → AllFit (members v)
unfolding members
members_fit fits_bool = fit_nil
members_fit (fits_num h) = fit_nil
members_fit (fits_obj h) = fit_nil
members_fit (fits_coll h f) = f

pub enc_parts : (v : Value) → enc v ≡ head v ∷ encs (members v)
unfolding enc members
enc_parts (bool b) = refl
enc_parts (num x) = refl
enc_parts (obj o) = refl
enc_parts (coll k vs) = refl

-- the collections' sorts are 3 and the kind's number
pub sort_kind : (k : Kind) (vs : Values) → sort (coll k vs) ≡ 3 + kind_code k
unfolding sort kind_code
sort_kind set vs = refl
sort_kind sequence vs = refl
sort_kind bag vs = refl

pub head_obj : (o : ℕ) → head (obj o) ≡ 18442240474082181120 + o
unfolding head
head_obj o = refl

pub head_coll : (k : Kind) (vs : Values) → head (coll k vs) ≡ 18442240478377148416 + 4294967296 * kind_code k + count vs
unfolding head
head_coll k vs = refl

-- ---- the bands of the sorts

-- where the cells of a sort begin
unfoldable pub start : ℕ → ℕ
start zero = 0
start (suc zero) = 2
start (suc (suc n)) = 18442240474082181120 + 4294967296 * n

start_up : (s t : ℕ) → s ≤ t → start s ≤ start t
unfolding start
start_up zero t h = omega arith
start_up (suc zero) zero h = absurd (omega arith)
start_up (suc zero) (suc zero) h = omega arith
start_up (suc zero) (suc (suc t)) h = omega arith
start_up (suc (suc s)) zero h = absurd (omega arith)
start_up (suc (suc s)) (suc zero) h = absurd (omega arith)
start_up (suc (suc s)) (suc (suc t)) h = omega arith

pub bit_small : (b : Bool) → bit b < 2
unfolding bit
bit_small true = omega arith
bit_small false = omega arith

-- a value's first cell is in the band of its sort
pub band : {v : Value} → Fits v → (start (sort v) ≤ head v) × (head v < start (suc (sort v)))
unfolding start head sort kind_code
band (fits_bool {b}) = let h = bit_small b in (omega arith, omega arith)
band (fits_num {x} k) = let h = word_laws.room x k in let l = h.0 in let u = h.1 in (omega (arith, l), omega (arith, u))
band (fits_obj h) = (omega arith, omega arith)
band (fits_coll {k = set} h f) = (omega arith, omega arith)
band (fits_coll {k = sequence} h f) = (omega arith, omega arith)
band (fits_coll {k = bag} h f) = (omega arith, omega arith)

-- a smaller sort has smaller cells
apart : {v w : Value} → Fits v → Fits w → sort v < sort w → head v < head w
apart {v} {w} f g h = let a = (band f).1 in let b = (band g).0 in let c = start_up (suc (sort v)) (sort w) h in omega arith

-- ---- the payload

pub payload_back : {v : Value} → Fits v → (sort v ≡ 1 → ⊥) → head v % 4294967296 ≡ payload v
unfolding head sort payload kind_code
payload_back (fits_bool {b}) n = let h = bit_small b in omega arith
payload_back (fits_num k) n = absurd (n refl)
payload_back (fits_obj h) n = omega arith
payload_back (fits_coll {k = set} h f) n = omega arith
payload_back (fits_coll {k = sequence} h f) n = omega arith
payload_back (fits_coll {k = bag} h f) n = omega arith

-- what a value is, by its sort s and, where it is no number, its payload p
pub data Shape (s p : ℕ) : Value → Type 0 where
  shape_bool : {b : Bool} → s ≡ 0 → p ≡ bit b → Shape s p (bool b)
  shape_num : {x : Number} → s ≡ 1 → T (kept x) → Shape s p (num x)
  shape_obj : {o : ℕ} → s ≡ 2 → p ≡ o → o < 4294967296 → Shape s p (obj o)
  shape_coll : {k : Kind} {vs : Values} → s ≡ 3 + kind_code k → p ≡ count vs → AllFit vs → Shape s p (coll k vs)

pub shape : {v : Value} {s p : ℕ} → Fits v → s ≡ sort v → ((sort v ≡ 1 → ⊥) → p ≡ payload v) → Shape s p v
unfolding sort payload
shape fits_bool e f = shape_bool e (f (λ n. omega arith))
shape (fits_num h) e f = shape_num e h
shape (fits_obj h) e f = shape_obj e (f (λ n. omega arith)) h
shape (fits_coll {k = k} {vs = vs} h g) e f = let d = sort_kind k vs in shape_coll (e ∙ d) (f (λ n. omega arith)) g

-- ---- how many members

low_kids : (c : ℕ) → c < 18442240478377148416 → kids c ≡ 0
unfolding kids
low_kids c h = rw (lt-ltb c 18442240478377148416 h)

high_kids : (s n : ℕ) → n < 4294967296 → kids (18442240478377148416 + 4294967296 * s + n) ≡ n
unfolding kids
high_kids s n h = rw (le-ltb (18442240478377148416 + 4294967296 * s + n) 18442240478377148416 (omega arith)) (omega arith)

pub kids_head : {v : Value} → Fits v → kids (head v) ≡ count (members v)
unfolding head members count
kids_head (fits_bool {b}) = low_kids _ (let h = bit_small b in omega arith)
kids_head (fits_num {x} k) = low_kids _ (let h = (word_laws.room x k).1 in omega (arith, h))
kids_head (fits_obj f) = low_kids _ (omega arith)
kids_head (fits_coll {k = k} {vs = vs} f g) = high_kids (kind_code k) (count vs) f

-- ---- the order of first cells

pub then_assoc : (a b c : Ordering) → then_order (then_order a b) c ≡ then_order a (then_order b c)
unfolding then_order
then_assoc Ordering.lt b c = refl
then_assoc Ordering.eq b c = refl
then_assoc Ordering.gt b c = refl

-- what follows only counts where the first are the same
pub then_like : (o p q : Ordering) → (o ≡ Ordering.eq → p ≡ q) → then_order o p ≡ then_order o q
unfolding then_order
then_like Ordering.lt p q h = refl
then_like Ordering.eq p q h = h refl
then_like Ordering.gt p q h = refl

bit_order : (a b : Bool) → compare (bit a) (bit b) ≡ order_int (of_bool a) (of_bool b)
unfolding bit order_int of_bool
bit_order true true = refl
bit_order true false = refl
bit_order false true = refl
bit_order false false = refl

kind_sort : (k : Kind) (vs : Values) → 3 ≤ sort (coll k vs)
kind_sort k vs = let e = sort_kind k vs in omega arith

-- within a sort, the cells are ordered as the ranks are
rank_order : {v w : Value} → Fits v → Fits w → sort v ≡ sort w → compare (head v) (head w) ≡ order_int (rank v) (rank w)
unfolding head rank sort order_int by_number
rank_order (fits_bool {b = a}) (fits_bool {b = b}) e = bit_order a b
rank_order (fits_num {x = x} f) (fits_num {x = y} g) e = word_laws.order x y f g
rank_order (fits_obj {o = a} f) (fits_obj {o = b} g) e = compare_like a b _ _ (λ l. omega arith) (λ l. omega arith) (λ l. omega arith)
rank_order (fits_coll {k = k} {vs = vs} f i) (fits_coll {k = j} {vs = ws} g h) e =
    let a = sort_kind k vs in let b = sort_kind j ws in
    compare_like (count vs) (count ws) _ _ (λ l. omega arith) (λ l. omega arith) (λ l. omega arith)
rank_order fits_bool (fits_num g) e = absurd (omega arith)
rank_order fits_bool (fits_obj g) e = absurd (omega arith)
rank_order fits_bool (fits_coll {k = k} {vs = vs} g i) e = absurd (let l = kind_sort k vs in omega arith)
rank_order (fits_num f) fits_bool e = absurd (omega arith)
rank_order (fits_num f) (fits_obj g) e = absurd (omega arith)
rank_order (fits_num f) (fits_coll {k = k} {vs = vs} g i) e = absurd (let l = kind_sort k vs in omega arith)
rank_order (fits_obj f) fits_bool e = absurd (omega arith)
rank_order (fits_obj f) (fits_num g) e = absurd (omega arith)
rank_order (fits_obj f) (fits_coll {k = k} {vs = vs} g i) e = absurd (let l = kind_sort k vs in omega arith)
rank_order (fits_coll {k = k} {vs = vs} f i) fits_bool e = absurd (let l = kind_sort k vs in omega arith)
rank_order (fits_coll {k = k} {vs = vs} f i) (fits_num g) e = absurd (let l = kind_sort k vs in omega arith)
rank_order (fits_coll {k = k} {vs = vs} f i) (fits_obj g) e = absurd (let l = kind_sort k vs in omega arith)

pub head_order_lem : {v w : Value} → Fits v → Fits w → compare (head v) (head w) ≡ head_order v w
unfolding head_order then_order
head_order_lem {v} {w} f g = by (three (sort v) (sort w))
  where
    sorted : {o : Ordering} → compare (sort v) (sort w) ≡ o → then_order (compare (sort v) (sort w)) (order_int (rank v) (rank w)) ≡ then_order o (order_int (rank v) (rank w))
    sorted e = ap (λ (o : Ordering). then_order o (order_int (rank v) (rank w))) e

    by : Three (sort v) (sort w) → compare (head v) (head w) ≡ then_order (compare (sort v) (sort w)) (order_int (rank v) (rank w))
    by (less l) = compare-lt (head v) (head w) (apart f g l) ∙ sym (sorted (compare-lt (sort v) (sort w) l))
    by (same e) = rank_order f g e ∙ sym (sorted (compare-eq (sort v) (sort w) e))
    by (over l) = compare-gt (head v) (head w) (apart g f l) ∙ sym (sorted (compare-gt (sort v) (sort w) l))
