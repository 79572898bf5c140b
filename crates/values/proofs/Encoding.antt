-- A value's cells: as many as its size, its own, and ordered as the values are. Assumes nothing.
use mathlib.Core.Path.{◌≡◌, refl, sym, ap, ◌∙◌}
use mathlib.Core.List.{List, [], ◌∷◌, ◌++◌, append_assoc, append-nil}
use Prim.Native.Nat.{Ordering}
use Prim.Native.Nat.{ℕ, suc, ◌+◌, ◌<◌, compare}
use native.Mathlib.Omega.{arith}
use native.Mathlib.Nat.{add-zero}
use lib.ListN.{length, length-append}
use lib.Dec.{T}
use Rattle.laws.proofs.Tests.{and_i}
use Rattle.laws.proofs.Orders.{compare_same, compare-eq}
use Rattle.ocl.specs.Values.{Value, bool, num, obj, coll, Values, nil, cons, count, size, sizes, every_part, then_order, members, head_order, order, orders}
use Rattle.ocl.specs.Laws.{number_kept, numbers_kept, all_kept}
use Rattle.ocl.proofs.Order.{order_is, by_members, order_same}
use Rattle.ocl.proofs.HeadOrder.{then_eq}
use Rattle.values.specs.Cells.{head, enc, encs, Fits, fits_bool, fits_num, fits_obj, fits_coll, AllFit, fit_nil, fit_cons, kids, past, lex}
use Rattle.values.proofs.Heads.{members_fit, enc_parts, kids_head, then_assoc, then_like, head_order_lem}

-- ---- as many cells as the size says

mutual
  unfolding enc size

  pub size_law : (v : Value) → length (enc v) ≡ size v
  size_law (bool b) = refl
  size_law (num x) = refl
  size_law (obj o) = refl
  size_law (coll k vs) = ap suc (sizes_law vs)

  pub sizes_law : (vs : Values) → length (encs vs) ≡ sizes vs
  sizes_law nil = refl
  sizes_law (cons v vs) = length-append (enc v) (encs vs) ∙ (let a = size_law v in let b = sizes_law vs in omega arith)

pub some_cells : (v : Value) → 0 < length (enc v)
some_cells v = rw (enc_parts v) (omega arith)

-- ---- the order

same_count : {v w : Value} → Fits v → Fits w → head v ≡ head w → count (members v) ≡ count (members w)
same_count f g e = sym (kids_head f) ∙ ap kids e ∙ kids_head g

abbrev Ordered : Value → Type 0
Ordered v = Fits v → (w : Value) → Fits w → (y z : List ℕ) → lex (enc v ++ y) (enc w ++ z) ≡ then_order (order v w) (lex y z)

abbrev Ordereds : Values → Type 0
Ordereds vs = AllFit vs → (ws : Values) → AllFit ws → count vs ≡ count ws → (y z : List ℕ) → lex (encs vs ++ y) (encs ws ++ z) ≡ then_order (orders vs ws) (lex y z)

ordered_by : (v : Value) → Ordereds (members v) → Ordered v
unfolding lex
ordered_by v ih f w g y z =
    rw (enc_parts v, enc_parts w, order_is v w, then_assoc (head_order v w) (orders (members v) (members w)) (lex y z), ← head_order_lem f g)
    (then_like (compare (head v) (head w)) _ _ (λ e. ih (members_fit f) (members w) (members_fit g) (same_count f g (compare_same (head v) (head w) e)) y z))

ordered_nil : Ordereds nil
unfolding count encs orders then_order
ordered_nil f nil g e y z = refl
ordered_nil f (cons w ws) g e y z = absurd (omega arith)

ordered_cons : (v : Value) (vs : Values) → Ordered v → Ordereds vs → Ordereds (cons v vs)
unfolding count encs orders
ordered_cons v vs p q f nil g e y z = absurd (omega arith)
ordered_cons v vs p q (fit_cons f fs) (cons w ws) (fit_cons g gs) e y z =
    rw (append_assoc (enc v) (encs vs) y, append_assoc (enc w) (encs ws) z, then_assoc (order v w) (orders vs ws) (lex y z), ← q fs ws gs (omega arith) y z)
    (p f w g (encs vs ++ y) (encs ws ++ z))

ordered : (v : Value) → Ordered v
ordered = by_members Ordered Ordereds ordered_by ordered_nil ordered_cons

-- document 01's order is the order of the cells
pub order_law : {v w : Value} → Fits v → Fits w → lex (enc v) (enc w) ≡ order v w
unfolding lex
order_law {v} {w} f g = rw (append-nil (enc v), append-nil (enc w), then_eq (order v w)) at (ordered v f w g [] [])

-- ---- the cells of the next n values

abbrev Passed : Value → Type 0
Passed v = Fits v → (n : ℕ) (y : List ℕ) → past (enc v ++ y) (suc n) ≡ length (enc v) + past y n

abbrev Passeds : Values → Type 0
Passeds vs = AllFit vs → (n : ℕ) (y : List ℕ) → past (encs vs ++ y) (n + count vs) ≡ length (encs vs) + past y n

passed_by : (v : Value) → Passeds (members v) → Passed v
unfolding past
passed_by v ih f n y = rw (enc_parts v, kids_head f) (let e = ih (members_fit f) n y in omega arith)

passed_nil : Passeds nil
unfolding count encs
passed_nil f n y = ap (past y) (add-zero n) ∙ (let z : past y n ≡ 0 + past y n = omega arith in z)

passed_cons : (v : Value) (vs : Values) → Passed v → Passeds vs → Passeds (cons v vs)
unfolding count encs
passed_cons v vs p q (fit_cons f fs) n y =
    let e : n + suc (count vs) ≡ suc (n + count vs) = omega arith in
    let a = p f (n + count vs) (encs vs ++ y) in
    let b = q fs n y in
    let c = length-append (enc v) (encs vs) in
    rw (e, append_assoc (enc v) (encs vs) y) (omega arith)

passed : (v : Value) → Passed v
passed = by_members Passed Passeds passed_by passed_nil passed_cons

pub past_zero : (cs : List ℕ) → past cs 0 ≡ 0
unfolding past
past_zero [] = refl
past_zero (c ∷ cs) = refl

-- one value's cells, whatever stands after it
pub past_law : {v : Value} → Fits v → (y : List ℕ) → past (enc v ++ y) 1 ≡ length (enc v)
past_law {v} f y = let a = passed v f 0 y in let b = past_zero y in omega arith

-- ---- the same cells are the same value

mutual
  unfolding numbers_kept number_kept all_kept every_part

  pub fits_kept : {v : Value} → Fits v → T (numbers_kept v)
  fits_kept fits_bool = tt
  fits_kept (fits_num h) = h
  fits_kept (fits_obj h) = tt
  fits_kept (fits_coll h f) = all_kept_lem f

  all_kept_lem : {vs : Values} → AllFit vs → T (all_kept vs)
  all_kept_lem fit_nil = tt
  all_kept_lem (fit_cons {v = v} {vs = vs} f fs) = and_i (numbers_kept v) (all_kept vs) (fits_kept f) (all_kept_lem fs)

lex_refl : (xs : List ℕ) → lex xs xs ≡ Ordering.eq
unfolding lex then_order
lex_refl [] = refl
lex_refl (x ∷ xs) = rw (compare-eq x x refl) (lex_refl xs)

pub same_cells : {v w : Value} → Fits v → Fits w → enc v ≡ enc w → v ≡ w
same_cells {v} {w} f g e = order_same v w (fits_kept f) (fits_kept g) (sym (order_law f g) ∙ ap (lex (enc v)) (sym e) ∙ lex_refl (enc v))
