-- The slots with an edit made: each is one of those before or the new one, and they ascend. Assumes nothing.
use mathlib.Core.Path.{◌≡◌, refl, sym, subst}
use mathlib.Core.Logic.{◌≢◌}
use mathlib.Core.Bool.{Bool, true, false, ◌&&◌, ◌||◌, true≢false}
use mathlib.Core.Option.{Option, none, some}
use mathlib.Core.List.{List, [], ◌∷◌, ◌++◌}
use Prim.Native.Nat.{ℕ, ◌<◌, ◌≤◌}
use native.Mathlib.Omega.{arith}
use borrow.Author.Tests.{ltb-false, eqb-true, eqb-false}
use lib.Dec.{T, eqb, eqb→eq, ltb, ltb→lt}
use Rattle.std.specs.Prelude.{if◌then◌else◌}
use Rattle.laws.specs.Lists.{Each, each_nil, each-cons}
use Rattle.laws.proofs.Tests.{and_l, and_r, and-true, or-e}
use Rattle.laws.proofs.Lists.{each_imp, each_append}
use Rattle.ocl.specs.Values.{Value}
use Rattle.sheet.specs.Sheet.{Slot}
use Rattle.sheet.proofs.Ascending.{Before, smaller_object, smaller_row, Ascending, ascending_nil, ascending_cons, before_then}
use Rattle.board.specs.Edits.{slot_for, comes_before, slots_before, slots_after}

-- ---- what holds of each

pub each_edited : {P : Slot → Type 0} (o a : ℕ) (v : Option Value) {xs : List Slot} → Each P xs → Each P (slot_for o a v) → Each P (slots_before xs o a ++ slot_for o a v ++ slots_after xs o a)
unfolding slots_before slots_after
each_edited o a v each_nil q = each_append q each_nil
each_edited {P} o a v (each-cons {n = x} {ns = xs} p h) q = by (comes_before x o a) (each_edited o a v h q)
  where
    rest : (b : Bool) → Each P (if b then xs else x ∷ xs)
    rest true = h
    rest false = each-cons p h

    by : (b : Bool) → Each P (slots_before xs o a ++ slot_for o a v ++ slots_after xs o a)
        → Each P ((if b then x ∷ slots_before xs o a else []) ++ slot_for o a v ++ (if b then slots_after xs o a else if eqb x.object o && eqb x.row a then xs else x ∷ xs))
    by true i = each-cons p i
    by false i = each_append q (rest (eqb x.object o && eqb x.row a))

-- ---- order

-- a slot by its object and row
abbrev pub At : ℕ → ℕ → Slot → Type 0
At o a y = (y.object ≡ o) × (y.row ≡ a)

before_by : (x y : Slot) (o a : ℕ) → At o a y → T (comes_before x o a) → Before x y
unfolding comes_before
before_by x y o a e t =
    or-e (ltb x.object o) (eqb x.object o && ltb x.row a) t
    (λ l. smaller_object (let k = ltb→lt x.object o l in omega (arith, e.0)))
    (λ l. smaller_row (let k = eqb→eq x.object o (and_l (eqb x.object o) _ l) in omega (arith, e.0)) (let k = ltb→lt x.row a (and_r (eqb x.object o) _ l) in omega (arith, e.1)))

apart : (m n : ℕ) → n ≤ m → m ≢ n → n < m
apart m n l h = omega (arith, h)

-- one that does not come before is the same or comes after
after_by : (x y : Slot) (o a : ℕ) → At o a y → comes_before x o a ≡ false → (eqb x.object o && eqb x.row a) ≡ false → Before y x
unfolding comes_before
after_by x y o a e b n = by (ltb x.object o) (eqb x.object o) (ltb x.row a) (eqb x.row a) refl refl refl refl b n
  where
    by : (p q r s : Bool) → ltb x.object o ≡ p → eqb x.object o ≡ q → ltb x.row a ≡ r → eqb x.row a ≡ s → (p || q && r) ≡ false → (q && s) ≡ false → Before y x
    by true q r s f g h i b n = absurd (true≢false b)
    by false true true s f g h i b n = absurd (true≢false b)
    by false true false true f g h i b n = absurd (true≢false n)
    by false true false false f g h i b n =
        let k = eqb-true x.object o g in
        let l = ltb-false x.row a h in
        let m : x.row ≢ a = eqb-false x.row a i in
        smaller_row (omega (arith, e.0)) (let z = apart x.row a l m in omega (arith, e.1))
    by false false r s f g h i b n =
        let l = ltb-false x.object o f in
        let m : x.object ≢ o = eqb-false x.object o g in
        smaller_object (let z = apart x.object o l m in omega (arith, e.0))

same_by : (x y z : Slot) (o a : ℕ) → At o a y → (eqb x.object o && eqb x.row a) ≡ true → Before x z → Before y z
same_by x y z o a e t b = let h = and-true (eqb x.object o) (eqb x.row a) t in by (eqb-true x.object o h.0) (eqb-true x.row a h.1) b
  where
    by : x.object ≡ o → x.row ≡ a → Before x z → Before y z
    by p q (smaller_object l) = smaller_object (omega (arith, e.0))
    by p q (smaller_row l m) = smaller_row (omega (arith, e.0)) (omega (arith, e.1))

pub each_before : (xs : List Slot) (y : Slot) (o a : ℕ) → At o a y → Each (λ x. Before x y) (slots_before xs o a)
unfolding slots_before
each_before [] y o a e = each_nil
each_before (x ∷ xs) y o a e = by (comes_before x o a) refl (each_before xs y o a e)
  where
    by : (b : Bool) → comes_before x o a ≡ b → Each (λ x. Before x y) (slots_before xs o a) → Each (λ x. Before x y) (if b then x ∷ slots_before xs o a else [])
    by true f h = each-cons (before_by x y o a e (subst T (sym f) tt)) h
    by false f h = each_nil

pub each_after : {xs : List Slot} (y : Slot) (o a : ℕ) → At o a y → Ascending xs → Each (Before y) (slots_after xs o a)
unfolding slots_after
each_after y o a e ascending_nil = each_nil
each_after y o a e (ascending_cons {x} {xs} h k) = by (comes_before x o a) refl (each_after y o a e k)
  where
    rest : (b : Bool) → comes_before x o a ≡ false → (eqb x.object o && eqb x.row a) ≡ b → Each (Before y) (if b then xs else x ∷ xs)
    rest true f i = each_imp (λ z. same_by x y z o a e i) h
    rest false f i = let j = after_by x y o a e f i in each-cons j (each_imp (λ z. before_then j) h)

    by : (b : Bool) → comes_before x o a ≡ b → Each (Before y) (slots_after xs o a)
        → Each (Before y) (if b then slots_after xs o a else if eqb x.object o && eqb x.row a then xs else x ∷ xs)
    by true f i = i
    by false f i = rest (eqb x.object o && eqb x.row a) f refl

new_at : (o a : ℕ) (v : Option Value) → Each (At o a) (slot_for o a v)
unfolding slot_for
new_at o a none = each_nil
new_at o a (some v) = each-cons (refl, refl) each_nil

-- the new slot in front of those after it
ascending_new : (o a : ℕ) (v : Option Value) {xs : List Slot} → ((y : Slot) → At o a y → Each (Before y) xs) → Ascending xs → Ascending (slot_for o a v ++ xs)
unfolding slot_for
ascending_new o a none h k = k
ascending_new o a (some v) h k = ascending_cons (h (record { object = o; row = a; value = v }) (refl, refl)) k

pub ascending_edited : (o a : ℕ) (v : Option Value) {xs : List Slot} → Ascending xs → Ascending (slots_before xs o a ++ slot_for o a v ++ slots_after xs o a)
unfolding slots_before slots_after
ascending_edited o a v ascending_nil = ascending_new o a v (λ y e. each_nil) ascending_nil
ascending_edited o a v (ascending_cons {x} {xs} h k) = by (comes_before x o a) refl (ascending_edited o a v k) (λ y i. each_after y o a i (ascending_cons h k))
  where
    rest : (b : Bool) → Ascending (if b then xs else x ∷ xs)
    rest true = k
    rest false = ascending_cons h k

    by : (b : Bool) → comes_before x o a ≡ b → Ascending (slots_before xs o a ++ slot_for o a v ++ slots_after xs o a)
        → ((y : Slot) → At o a y → Each (Before y) (if b then slots_after xs o a else if eqb x.object o && eqb x.row a then xs else x ∷ xs)) → Ascending ((if b then x ∷ slots_before xs o a else []) ++ slot_for o a v ++ (if b then slots_after xs o a else if eqb x.object o && eqb x.row a then xs else x ∷ xs))
    by true e i j = ascending_cons (each_edited o a v h (each_imp (λ y q. before_by x y o a q (subst T (sym e) tt)) (new_at o a v))) i
    by false e i j = ascending_new o a v j (rest (eqb x.object o && eqb x.row a))
