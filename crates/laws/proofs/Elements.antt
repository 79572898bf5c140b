-- A list's elements by tests and by places. Assumes nothing.
use mathlib.Core.Path.{◌≡◌, refl, sym, ap, ◌∙◌, subst}
use mathlib.Core.Bool.{Bool, ◌&&◌, and_assoc}
use mathlib.Core.Option.{none, some, none-ne-some, some-injective}
use mathlib.Core.List.{List, [], ◌∷◌, ◌++◌, map}
use Prim.Native.Nat.{ℕ, zero, suc, ◌<◌, ◌≤◌}
use native.Mathlib.Omega.{arith}
use lib.ListN.{length, get_or, get_elem?}
use Rattle.laws.specs.Lists.{all_of, Each, each_nil, each-cons}

pub all_append : {A : Type 0} (f : A → Bool) (xs ys : List A) → all_of f (xs ++ ys) ≡ all_of f xs && all_of f ys
unfolding all_of
all_append f [] ys = refl
all_append f (x ∷ xs) ys = ap (λ (b : Bool). f x && b) (all_append f xs ys) ∙ sym (and_assoc (f x) (all_of f xs) (all_of f ys))

-- a place within the list, whatever stands for the places past it
pub get_d_map : {A B : Type 0} (f : A → B) (l : List A) (i : ℕ) (d : A) (e : B) → i < length l → get_or (map f l) i e ≡ f (get_or l i d)
get_d_map f [] i d e h = absurd (omega arith)
get_d_map f (x ∷ l) zero d e h = refl
get_d_map f (x ∷ l) (suc i) d e h = get_d_map f l i d e (omega arith)

pub elem_some : {A : Type 0} (l : List A) (i : ℕ) (d : A) → i < length l → get_elem? l i ≡ some (get_or l i d)
elem_some [] i d h = absurd (omega arith)
elem_some (a ∷ l) zero d h = refl
elem_some (a ∷ l) (suc i) d h = elem_some l i d (omega arith)

pub elem_none : {A : Type 0} (l : List A) (i : ℕ) → length l ≤ i → get_elem? l i ≡ none
elem_none [] i h = refl
elem_none (a ∷ l) zero h = absurd (omega arith)
elem_none (a ∷ l) (suc i) h = elem_none l i (omega arith)

-- an element that is there, whatever stands for the places past the list
pub elem_at : {A : Type 0} (l : List A) (i : ℕ) {x : A} (d : A) → get_elem? l i ≡ some x → (i < length l) × (get_or l i d ≡ x)
elem_at [] i d e = absurd (none-ne-some _ e)
elem_at (a ∷ l) zero d e = (omega arith, some-injective _ _ e)
elem_at (a ∷ l) (suc i) d e = let h = elem_at l i d e in (omega arith, h.1)

pub each_elem : {A : Type 0} {P : A → Type 0} {l : List A} (i : ℕ) {x : A} → Each P l → get_elem? l i ≡ some x → P x
each_elem i each_nil e = absurd (none-ne-some _ e)
each_elem {P} zero (each-cons h hs) e = subst P (some-injective _ _ e) h
each_elem (suc i) (each-cons h hs) e = each_elem i hs e
