-- Slots ascend by object and row: a V line comes after the last slot, and so after each. Assumes nothing.
use mathlib.Core.Path.{◌≡◌, sym, subst}
use mathlib.Core.Bool.{◌&&◌, ◌||◌}
use mathlib.Core.List.{List, [], ◌∷◌, ◌++◌}
use Prim.Native.Nat.{◌<◌}
use native.Mathlib.Omega.{arith}
use borrow.Author.Tests.{eq-eqb}
use lib.Dec.{T, eqb, eqb→eq, ltb, ltb→lt, lt→ltb}
use Rattle.laws.specs.Lists.{Each, each_nil, each-cons}
use Rattle.laws.proofs.Tests.{and_i, and_l, and_r, or_l, or_r, or-e}
use Rattle.laws.proofs.Lists.{each_append, each_head}
use Rattle.sheet.specs.Sheet.{Slot}
use Rattle.sheet.specs.Refusals.{after_slots}

-- x comes before y
pub data Before (x y : Slot) : Type 0 where
  smaller_object : x.object < y.object → Before x y
  smaller_row : x.object ≡ y.object → x.row < y.row → Before x y

-- each comes before all that follow it
pub data Ascending : List Slot → Type 0 where
  ascending_nil : Ascending []
  ascending_cons : {x : Slot} {xs : List Slot} → Each (Before x) xs → Ascending xs → Ascending (x ∷ xs)

pub before_then : {x y z : Slot} → Before x y → Before y z → Before x z
before_then (smaller_object a) (smaller_object b) = smaller_object (omega arith)
before_then (smaller_object a) (smaller_row b c) = smaller_object (omega arith)
before_then (smaller_row a b) (smaller_object c) = smaller_object (omega arith)
before_then (smaller_row a b) (smaller_row c d) = smaller_row (omega arith) (omega arith)

before_test : (x y : Slot) → Before x y → T (ltb x.object y.object || eqb x.object y.object && ltb x.row y.row)
before_test x y (smaller_object h) = or_l (ltb x.object y.object) _ (lt→ltb x.object y.object h)
before_test x y (smaller_row e h) =
    or_r (ltb x.object y.object) _ (and_i (eqb x.object y.object) (ltb x.row y.row) (subst T (sym (eq-eqb x.object y.object e)) tt) (lt→ltb x.row y.row h))

-- a slot comes after those before it
pub ascending_after : (l : List Slot) (x : Slot) (r : List Slot) → Ascending (l ++ (x ∷ r)) → T (after_slots l x.object x.row)
unfolding after_slots
ascending_after [] x r a = tt
ascending_after (y ∷ []) x r (ascending_cons (each-cons b bs) a) = before_test y x b
ascending_after (y ∷ z ∷ l) x r (ascending_cons b a) = ascending_after (z ∷ l) x r a

pub before_by : (x y : Slot) → T (after_slots (x ∷ []) y.object y.row) → Before x y
unfolding after_slots
before_by x y t =
    or-e (ltb x.object y.object) (eqb x.object y.object && ltb x.row y.row) t
    (λ l. smaller_object (ltb→lt x.object y.object l))
    (λ l. smaller_row (eqb→eq x.object y.object (and_l (eqb x.object y.object) _ l)) (ltb→lt x.row y.row (and_r (eqb x.object y.object) _ l)))

after_each : (xs : List Slot) (y : Slot) → Ascending xs → T (after_slots xs y.object y.row) → Each (λ x. Before x y) xs
unfolding after_slots
after_each [] y a t = each_nil
after_each (x ∷ []) y a t = each-cons (before_by x y t) each_nil
after_each (x ∷ z ∷ xs) y (ascending_cons h a) t =
    let k = after_each (z ∷ xs) y a t in each-cons (before_then (each_head h) (each_head k)) k

ascending_last : {xs : List Slot} {y : Slot} → Ascending xs → Each (λ x. Before x y) xs → Ascending (xs ++ (y ∷ []))
ascending_last ascending_nil each_nil = ascending_cons each_nil ascending_nil
ascending_last (ascending_cons h a) (each-cons p k) = ascending_cons (each_append h (each-cons p each_nil)) (ascending_last a k)

pub ascending_more : (xs : List Slot) (y : Slot) → Ascending xs → T (after_slots xs y.object y.row) → Ascending (xs ++ (y ∷ []))
ascending_more xs y a t = ascending_last a (after_each xs y a t)
