-- Slots that are numbered anew and put back in order ascend, are as many and as large. Assumes nothing.
use mathlib.Core.Path.{◌≡◌, refl, sym, ap, ◌∙◌, subst}
use mathlib.Core.Bool.{not}
use mathlib.Core.List.{List, [], ◌∷◌}
use Prim.Native.Nat.{ℕ, suc, ◌+◌}
use native.Mathlib.Omega.{arith}
use borrow.Author.Tests.{eq-eqb}
use lib.ListN.{length}
use lib.Dec.{T, T_not, eqb, ltb, lt→ltb}
use Rattle.laws.specs.Lists.{Each, each_nil, each-cons}
use Rattle.laws.proofs.Tests.{and_i, by-if, or_l, or_r}
use Rattle.laws.proofs.Orders.{Three, less, same, over, three}
use Rattle.laws.proofs.Lists.{each_imp}
use Rattle.ocl.specs.Values.{size}
use Rattle.sheet.specs.Sheet.{Slot}
use Rattle.sheet.specs.Limits.{total_size}
use Rattle.sheet.specs.Refusals.{after_slots}
use Rattle.sheet.proofs.Ascending.{Before, smaller_object, smaller_row, Ascending, ascending_nil, ascending_cons, before_then, before_by}
use Rattle.profile.specs.RenumberedLines.{put_slot, renumbered_slot, renumbered_slots}
use Rattle.profile.proofs.Images.{Fit}
use Rattle.profile.proofs.ImageValues.{image_size}

-- ---- slots put in order

each_put : {P : Slot → Type 0} (x : Slot) (l : List Slot) → P x → Each P l → Each P (put_slot x l)
unfolding put_slot
each_put x [] p h = each-cons p each_nil
each_put {P} x (y ∷ l) p (each-cons q h) = by-if (Each P) (after_slots (y ∷ []) x.object x.row) (y ∷ put_slot x l) (x ∷ y ∷ l) (λ t. each-cons q (each_put x l p h)) (λ t. each-cons p (each-cons q h))

total_put : (x : Slot) (l : List Slot) → total_size (put_slot x l) ≡ size x.value + total_size l
unfolding put_slot total_size
total_put x [] = refl
total_put x (y ∷ l) =
    by-if (λ z. total_size z ≡ size x.value + (size y.value + total_size l)) (after_slots (y ∷ []) x.object x.row) (y ∷ put_slot x l) (x ∷ y ∷ l) (λ t. let a = total_put x l in omega arith) (λ t. refl)

length-put : (x : Slot) (l : List Slot) → length (put_slot x l) ≡ suc (length l)
unfolding put_slot
length-put x [] = refl
length-put x (y ∷ l) = by-if (λ z. length z ≡ suc (length (y ∷ l))) (after_slots (y ∷ []) x.object x.row) (y ∷ put_slot x l) (x ∷ y ∷ l) (λ t. let a = length-put x l in omega arith) (λ t. refl)

-- two slots of other objects or rows
abbrev Other : Slot → Slot → Type 0
Other x y = x.object ≡ y.object → x.row ≡ y.row → ⊥

not-before : (x y : Slot) → Other x y → T (not (after_slots (y ∷ []) x.object x.row)) → Before x y
unfolding after_slots
not-before x y d t = by (three x.object y.object) (three x.row y.row)
  where
    no : T (after_slots (y ∷ []) x.object x.row) → ⊥
    no h = T_not (after_slots (y ∷ []) x.object x.row) t h

    by : Three x.object y.object → Three x.row y.row → Before x y
    by (less k) q = smaller_object k
    by (same e) (less k) = smaller_row e k
    by (same e) (same f) = absurd (d e f)
    by (same e) (over k) = absurd (no (or_r (ltb y.object x.object) _ (and_i (eqb y.object x.object) (ltb y.row x.row) (subst T (sym (eq-eqb y.object x.object (sym e))) tt) (lt→ltb y.row x.row k))))
    by (over k) q = absurd (no (or_l (ltb y.object x.object) _ (lt→ltb y.object x.object k)))

ascending_put : (x : Slot) (l : List Slot) → Ascending l → Each (Other x) l → Ascending (put_slot x l)
unfolding put_slot
ascending_put x [] a d = ascending_cons each_nil ascending_nil
ascending_put x (y ∷ l) (ascending_cons b a) (each-cons d ds) =
    by-if Ascending (after_slots (y ∷ []) x.object x.row) (y ∷ put_slot x l) (x ∷ y ∷ l)
    (λ t. ascending_cons (each_put x l (before_by y x t) b) (ascending_put x l a ds))
    (λ t. let q = not-before x y d t in ascending_cons (each-cons q (each_imp (λ z r. before_then q r) b)) (ascending_cons b a))

-- ---- all slots numbered anew

pub each_renumbered : (to : ℕ → ℕ) {P Q : Slot → Type 0} → ((x : Slot) → P x → Q (renumbered_slot to x)) → {xs : List Slot} → Each P xs → Each Q (renumbered_slots to xs)
unfolding renumbered_slots
each_renumbered to f each_nil = each_nil
each_renumbered to f (each-cons {n = x} {ns = xs} p h) = each_put (renumbered_slot to x) (renumbered_slots to xs) (f x p) (each_renumbered to f h)

module _ (to back : ℕ → ℕ) (back_to : (o : ℕ) → back (to o) ≡ o) where
  pub length_renumbered : (xs : List Slot) → length (renumbered_slots to xs) ≡ length xs
  unfolding renumbered_slots
  length_renumbered [] = refl
  length_renumbered (x ∷ xs) = length-put (renumbered_slot to x) (renumbered_slots to xs) ∙ ap suc (length_renumbered xs)

  pub total_renumbered : {xs : List Slot} → Each (λ x. Fit x.value) xs → total_size (renumbered_slots to xs) ≡ total_size xs
  unfolding renumbered_slots renumbered_slot total_size
  total_renumbered each_nil = refl
  total_renumbered (each-cons {n = x} {ns = xs} f h) =
      let a = total_put (renumbered_slot to x) (renumbered_slots to xs) in let b = total_renumbered h in let c = image_size to back back_to x.value f in omega arith

  before_other : (x y : Slot) → Before x y → Other (renumbered_slot to x) (renumbered_slot to y)
  unfolding renumbered_slot
  before_other x y (smaller_object h) e d = let z : x.object ≡ y.object = sym (back_to x.object) ∙ ap back e ∙ back_to y.object in omega arith
  before_other x y (smaller_row q h) e d = omega arith

  pub ascending_renumbered : {xs : List Slot} → Ascending xs → Ascending (renumbered_slots to xs)
  unfolding renumbered_slots
  ascending_renumbered ascending_nil = ascending_nil
  ascending_renumbered (ascending_cons {x} {xs} b a) =
      ascending_put (renumbered_slot to x) (renumbered_slots to xs) (ascending_renumbered a) (each_renumbered to (λ y h. before_other x y h) b)
