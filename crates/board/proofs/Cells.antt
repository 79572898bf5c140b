-- The slots with an edit made, by what they say of each object and row, and by their number and sizes. Assumes nothing.
use mathlib.Core.Path.{◌≡◌, refl, sym, ap, ◌∙◌}
use mathlib.Core.Bool.{Bool, true, false, ◌&&◌, true≢false}
use mathlib.Core.Option.{Option, none, some, none-ne-some}
use mathlib.Core.List.{List, [], ◌∷◌, ◌++◌, append_assoc}
use Prim.Native.Nat.{ℕ, ◌+◌, ◌≤◌}
use native.Mathlib.Omega.{arith}
use borrow.Author.Tests.{ne_eqb}
use lib.ListN.{length}
use lib.Dec.{T, eqb, eqb→eq, eqb_refl}
use Rattle.std.specs.Prelude.{if◌then◌else◌}
use Rattle.laws.specs.Lists.{Each, each_nil, each-cons}
use Rattle.laws.proofs.Tests.{and_l, and_r, test_true, test_fails}
use Rattle.laws.proofs.Lists.{each_imp}
use Rattle.ocl.specs.Values.{Value, bool, size}
use Rattle.sheet.specs.Sheet.{Slot, lookup}
use Rattle.sheet.specs.Limits.{total_size}
use Rattle.sheet.proofs.Ascending.{Before, smaller_object, smaller_row, Ascending}
use Rattle.board.specs.Edits.{slot_for, comes_before, slots_before, slots_after}
use Rattle.board.proofs.Slots.{At, each_before, each_after}

-- the slot is of this object and row, as looking up asks
abbrev pub here : ℕ → ℕ → Slot → Bool
here o i x = eqb o x.object && eqb i x.row

pub and_no : (a b : Bool) → b ≡ false → (a && b) ≡ false
and_no true b e = e
and_no false b e = refl

-- ---- another object or row than the edited one

module _ (p a o i : ℕ) (ne : (eqb o p && eqb i a) ≡ false) where
  passed : (x : Slot) (xs : List Slot) → At p a x → lookup (x ∷ xs) o i ≡ lookup xs o i
  unfolding lookup
  passed x xs h =
      let n : here o i x ≡ false = ap (λ (k : ℕ). eqb o k && eqb i x.row) h.0 ∙ ap (λ (k : ℕ). eqb o p && eqb i k) h.1 ∙ ne in
      ap (λ (b : Bool). if b then some x.value else lookup xs o i) n

  new_passed : (v : Option Value) (xs : List Slot) → lookup (slot_for p a v ++ xs) o i ≡ lookup xs o i
  unfolding slot_for
  new_passed none xs = refl
  new_passed (some v) xs = passed (record { object = p; row = a; value = v }) xs (refl, refl)

  pub other_cell : (v : Option Value) (xs : List Slot) → lookup (slots_before xs p a ++ slot_for p a v ++ slots_after xs p a) o i ≡ lookup xs o i
  unfolding slots_before slots_after
  other_cell v [] = new_passed v []
  other_cell v (x ∷ xs) = by (comes_before x p a) (other_cell v xs)
    where
      rest : (b : Bool) → (T b → At p a x) → lookup (slot_for p a v ++ (if b then xs else x ∷ xs)) o i ≡ lookup (x ∷ xs) o i
      rest true e = new_passed v xs ∙ sym (passed x xs (e tt))
      rest false e = new_passed v (x ∷ xs)

      by : (b : Bool) → lookup (slots_before xs p a ++ slot_for p a v ++ slots_after xs p a) o i ≡ lookup xs o i
          → lookup ((if b then x ∷ slots_before xs p a else []) ++ slot_for p a v
          ++ (if b then slots_after xs p a else if eqb x.object p && eqb x.row a then xs else x ∷ xs)) o i ≡ lookup (x ∷ xs) o i
      by true h = unfold lookup in ap (λ y. if here o i x then some x.value else y) h
      by false h = rest (eqb x.object p && eqb x.row a) (λ t. (eqb→eq x.object p (and_l (eqb x.object p) _ t), eqb→eq x.row a (and_r (eqb x.object p) _ t)))

-- ---- the edited one

away_left : {x y : Slot} (o i : ℕ) → At o i y → Before x y → here o i x ≡ false
away_left {x} o i e (smaller_object l) = ap (λ (b : Bool). b && eqb i x.row) (ne_eqb o x.object (λ q. omega (arith, e.0)))
away_left {x} o i e (smaller_row m l) = and_no (eqb o x.object) (eqb i x.row) (ne_eqb i x.row (λ q. omega (arith, e.1)))

away_right : {x y : Slot} (o i : ℕ) → At o i y → Before y x → here o i x ≡ false
away_right {x} o i e (smaller_object l) = ap (λ (b : Bool). b && eqb i x.row) (ne_eqb o x.object (λ q. omega (arith, e.0)))
away_right {x} o i e (smaller_row m l) = and_no (eqb o x.object) (eqb i x.row) (ne_eqb i x.row (λ q. omega (arith, e.1)))

module _ (o i : ℕ) where
  -- slots of others are passed over
  skip : {xs : List Slot} (ys : List Slot) → Each (λ x. here o i x ≡ false) xs → lookup (xs ++ ys) o i ≡ lookup ys o i
  unfolding lookup
  skip ys each_nil = refl
  skip ys (each-cons {n = x} {ns = xs} p h) = ap (λ (b : Bool). if b then some x.value else lookup (xs ++ ys) o i) p ∙ skip ys h

  none_there : {xs : List Slot} → Each (λ x. here o i x ≡ false) xs → lookup xs o i ≡ none
  unfolding lookup
  none_there each_nil = refl
  none_there (each-cons {n = x} {ns = xs} p h) = ap (λ (b : Bool). if b then some x.value else lookup xs o i) p ∙ none_there h

  new_found : (v : Option Value) (xs : List Slot) → lookup xs o i ≡ none → lookup (slot_for o i v ++ xs) o i ≡ v
  unfolding slot_for lookup
  new_found none xs h = h
  new_found (some v) xs h = rw (test_true (eqb o o) (eqb_refl o), test_true (eqb i i) (eqb_refl i))

  pub own_cell : (v : Option Value) (xs : List Slot) → Ascending xs → lookup (slots_before xs o i ++ slot_for o i v ++ slots_after xs o i) o i ≡ v
  own_cell v xs k =
      let y : Slot = record { object = o; row = i; value = bool true } in
      ap (λ l. lookup l o i) (append_assoc (slots_before xs o i) (slot_for o i v) (slots_after xs o i))
      ∙ skip (slot_for o i v ++ slots_after xs o i) (each_imp (λ x. away_left {x = x} {y = y} o i (refl, refl)) (each_before xs y o i (refl, refl)))
      ∙ new_found v (slots_after xs o i) (none_there (each_imp (λ x. away_right {x = x} {y = y} o i (refl, refl)) (each_after y o i (refl, refl) k)))

-- ---- clearing

-- where no slot is first, none is
first_none : (x : Slot) (xs : List Slot) (o i : ℕ) → lookup (x ∷ xs) o i ≡ none → (here o i x ≡ false) × (lookup xs o i ≡ none)
unfolding lookup
first_none x xs o i e = by (here o i x) refl e
  where
    by : (b : Bool) → here o i x ≡ b → (if b then some x.value else lookup xs o i) ≡ none → (here o i x ≡ false) × (lookup xs o i ≡ none)
    by true q e = absurd (none-ne-some _ (sym e))
    by false q e = (q, e)

turned : (x : Slot) (o i : ℕ) → here o i x ≡ false → (eqb x.object o && eqb x.row i) ≡ false
turned x o i e = test_fails (eqb x.object o && eqb x.row i) (λ t.
    let p : x.object ≡ o = eqb→eq x.object o (and_l (eqb x.object o) _ t) in
    let q : x.row ≡ i = eqb→eq x.row i (and_r (eqb x.object o) _ t) in
    let z : here o i x ≡ true = rw (p, q, test_true (eqb o o) (eqb_refl o), test_true (eqb i i) (eqb_refl i)) in
    absurd (let w : ◌≡◌ {A = Bool} true false = sym z ∙ e in true≢false w))

-- where no value stood nothing is changed
pub cleared_same : (xs : List Slot) (o i : ℕ) → lookup xs o i ≡ none → slots_before xs o i ++ slots_after xs o i ≡ xs
unfolding slots_before slots_after
cleared_same [] o i e = refl
cleared_same (x ∷ xs) o i e = let h = first_none x xs o i e in by (comes_before x o i) (eqb x.object o && eqb x.row i) (turned x o i h.0) (cleared_same xs o i h.1)
  where
    by : (b c : Bool) → c ≡ false → slots_before xs o i ++ slots_after xs o i ≡ xs
        → (if b then x ∷ slots_before xs o i else []) ++ (if b then slots_after xs o i else if c then xs else x ∷ xs) ≡ x ∷ xs
    by true c q r = ap (λ l. x ∷ l) r
    by false c q r = rw q

-- and there are no more slots, and no greater sizes
pub cleared_count : (xs : List Slot) (o i : ℕ) → length (slots_before xs o i ++ slots_after xs o i) ≤ length xs
unfolding slots_before slots_after
cleared_count [] o i = omega arith
cleared_count (x ∷ xs) o i = by (comes_before x o i) (eqb x.object o && eqb x.row i) (cleared_count xs o i)
  where
    by : (b c : Bool) → length (slots_before xs o i ++ slots_after xs o i) ≤ length xs
        → length ((if b then x ∷ slots_before xs o i else []) ++ (if b then slots_after xs o i else if c then xs else x ∷ xs)) ≤ length (x ∷ xs)
    by true c h = omega arith
    by false true h = omega arith
    by false false h = omega arith

pub cleared_size : (xs : List Slot) (o i : ℕ) → total_size (slots_before xs o i ++ slots_after xs o i) ≤ total_size xs
unfolding slots_before slots_after total_size
cleared_size [] o i = omega arith
cleared_size (x ∷ xs) o i = by (comes_before x o i) (eqb x.object o && eqb x.row i) (cleared_size xs o i)
  where
    by : (b c : Bool) → total_size (slots_before xs o i ++ slots_after xs o i) ≤ total_size xs
        → total_size ((if b then x ∷ slots_before xs o i else []) ++ (if b then slots_after xs o i else if c then xs else x ∷ xs)) ≤ size x.value + total_size xs
    by true c h = omega arith
    by false true h = omega arith
    by false false h = omega arith
