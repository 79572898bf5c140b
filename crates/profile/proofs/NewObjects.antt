-- The classes of objects that are numbered anew. Assumes nothing.
use mathlib.Core.Path.{◌≡◌, refl, sym, ap, ◌∙◌}
use mathlib.Core.Option.{some}
use mathlib.Core.List.{List, [], ◌∷◌, ◌++◌}
use Prim.Native.Nat.{ℕ, zero, suc, ◌<◌, ◌≤◌}
use native.Mathlib.Omega.{arith}
use lib.ListN.{length, get_or, get_elem?, get_or-append}
use lib.Seq.{get_or_at}
use Rattle.laws.proofs.Orders.{Three, less, same, over, three}
use Rattle.laws.proofs.Lists.{length_more}
use Rattle.laws.proofs.Elements.{elem_some, elem_none}
use Rattle.profile.specs.Renumbering.{Permutation}
use Rattle.profile.specs.RenumberedLines.{renumbered_objects}

-- ---- the objects

pub objects_count : (back : ℕ → ℕ) (l : List ℕ) (n : ℕ) → length (renumbered_objects back l n) ≡ n
unfolding renumbered_objects
objects_count back l zero = refl
objects_count back l (suc n) = length_more (renumbered_objects back l n) (get_or l (back n) 0) ∙ ap suc (objects_count back l n)

pub objects_at : (back : ℕ → ℕ) (l : List ℕ) (n o : ℕ) → o < n → get_or (renumbered_objects back l n) o 0 ≡ get_or l (back o) 0
unfolding renumbered_objects
objects_at back l zero o h = absurd (omega arith)
objects_at back l (suc n) o h = by (three o n) (objects_at back l n o)
  where
    by : Three o n → (o < n → get_or (renumbered_objects back l n) o 0 ≡ get_or l (back o) 0) → get_or (renumbered_objects back l n ++ (get_or l (back n) 0 ∷ [])) o 0 ≡ get_or l (back o) 0
    by (less k) g = get_or-append (renumbered_objects back l n) (get_or l (back n) 0 ∷ []) 0 o (let e = objects_count back l n in omega arith) ∙ g k
    by (same e) g = get_or_at (renumbered_objects back l n) (get_or l (back n) 0) [] 0 o (objects_count back l n ∙ sym e) ∙ ap (λ i. get_or l (back i) 0) (sym e)
    by (over k) g = absurd (omega arith)

module _ (l : List ℕ) (p : Permutation (length l)) where
  outside : (o : ℕ) → length l ≤ o → length l ≤ p.back o
  outside o h = by (three (p.back o) (length l))
    where
      by : Three (p.back o) (length l) → length l ≤ p.back o
      by (less k) = absurd (let i = p.to_inside (p.back o) k in let e = p.to_back o in omega arith)
      by (same k) = omega arith
      by (over k) = omega arith

  pub class_image : (o : ℕ) → get_elem? (renumbered_objects p.back l (length l)) o ≡ get_elem? l (p.back o)
  class_image o = by (three o (length l))
    where
      none_there : length l ≤ o → get_elem? (renumbered_objects p.back l (length l)) o ≡ get_elem? l (p.back o)
      none_there k =
          elem_none (renumbered_objects p.back l (length l)) o (let e = objects_count p.back l (length l) in omega arith)
          ∙ sym (elem_none l (p.back o) (outside o k))

      by : Three o (length l) → get_elem? (renumbered_objects p.back l (length l)) o ≡ get_elem? l (p.back o)
      by (less k) =
          elem_some (renumbered_objects p.back l (length l)) o 0 (let e = objects_count p.back l (length l) in omega arith)
          ∙ ap some (objects_at p.back l (length l) o k) ∙ sym (elem_some l (p.back o) 0 (p.back_inside o k))
      by (same k) = none_there (omega arith)
      by (over k) = none_there (omega arith)
