-- The subtype test is the least relation, and the common type in its words. Assumes nothing.
use mathlib.Core.Path.{◌≡◌, refl, ap, subst}
use mathlib.Core.Option.{Option, none, some}
use Prim.Native.Nat.{ℕ}
use native.Mathlib.Omega.{arith}
use lib.Dec.{T}
use Rattle.ocl.specs.Types.{Simple, any, boolean, integer, real, class, Letter, collection, exactly, Ty, void, simple, around, Parents, Subtype, reflexive, transitive, void_below, integer_real, boolean_any, real_any, class_any, class_parent, kind_collection, covariant, parent_or, up, letter_subtype, subtype, join}
use Rattle.ocl.specs.Laws.{Small, SubtypingLaw, CommonTypeLaw}
use Rattle.laws.proofs.Tests.{and_i, and_l, and_r, All?, all_none, all_some, Any?, any_some, at_any}
use Rattle.ocl.proofs.SimpleTypes.{here, step, Climb, climb_eq, top, simpleSubtype→climb, climb→simpleSubtype}
use Rattle.ocl.proofs.Types.{sameKind→eq, letter_refl, subtype_refl, subtype_trans, subtype_anti, join_upper, join_least}

-- ---- the document's relation, rule for rule, and the test are one

parent_step : {parent : Parents} (n : ℕ) (o : Option ℕ) → parent n ≡ o → Subtype parent (simple (class n)) (simple (parent_or o))
unfolding parent_or
parent_step n none e = class_any
parent_step n (some p) e = class_parent e

up_step : {parent : Parents} (a : Simple) → Subtype parent (simple a) (simple (up parent a))
unfolding up
up_step any = reflexive
up_step boolean = boolean_any
up_step integer = integer_real
up_step real = real_any
up_step {parent} (class n) = parent_step n (parent n) refl

climb→Subtype : {parent : Parents} {a b : Simple} → Climb parent a b → Subtype parent (simple a) (simple b)
climb→Subtype here = reflexive
climb→Subtype (step {a} g) = transitive (up_step a) (climb→Subtype g)

letter→Subtype : {parent : Parents} (k l : Letter) (t : Ty) → T (letter_subtype k l) → Subtype parent (around k t) (around l t)
unfolding letter_subtype
letter→Subtype collection collection t h = reflexive
letter→Subtype collection (exactly l) t h = absurd h
letter→Subtype (exactly k) collection t h = kind_collection
letter→Subtype {parent} (exactly k) (exactly l) t h = subst (λ x. Subtype parent (around (exactly k) t) (around (exactly x) t)) (sameKind→eq k l h) reflexive

module _ (parent : Parents) (small : Small parent) where
  pub subtype→Subtype : (t u : Ty) → T (subtype parent t u) → Subtype parent t u
  unfolding subtype
  subtype→Subtype void u h = void_below
  subtype→Subtype (simple a) void h = absurd h
  subtype→Subtype (simple a) (simple b) h = climb→Subtype (simpleSubtype→climb parent small a b h)
  subtype→Subtype (simple a) (around l u) h = absurd h
  subtype→Subtype (around k t) void h = absurd h
  subtype→Subtype (around k t) (simple b) h = absurd h
  subtype→Subtype (around k t) (around l u) h = transitive (letter→Subtype k l t (and_l (letter_subtype k l) _ h)) (covariant (subtype→Subtype t u (and_r (letter_subtype k l) _ h)))

  pub Subtype→subtype : {t u : Ty} → Subtype parent t u → T (subtype parent t u)
  unfolding subtype letter_subtype up parent_or
  Subtype→subtype (reflexive {t}) = subtype_refl parent small t
  Subtype→subtype (transitive {t} {u} {w} g h) = subtype_trans parent small t u w (Subtype→subtype g) (Subtype→subtype h)
  Subtype→subtype void_below = tt
  Subtype→subtype boolean_any = climb→simpleSubtype parent small _ _ (step here)
  Subtype→subtype integer_real = climb→simpleSubtype parent small _ _ (step here)
  Subtype→subtype real_any = climb→simpleSubtype parent small _ _ (step here)
  Subtype→subtype (class_any {c}) = climb→simpleSubtype parent small _ _ (top parent small (class c))
  Subtype→subtype (class_parent e) = climb→simpleSubtype parent small _ _ (step (climb_eq (ap parent_or e)))
  Subtype→subtype (kind_collection {t = t}) = subtype_refl parent small t
  Subtype→subtype (covariant {l} {t} {u} g) = and_i (letter_subtype l l) (subtype parent t u) (letter_refl l) (Subtype→subtype g)

  -- ---- the common type

  upper_of : {t u : Ty} (o : Option Ty) → All? (λ w. T (subtype parent t w) × T (subtype parent u w)) o → (w : Ty) → o ≡ some w → Subtype parent t w × Subtype parent u w
  upper_of {t} {u} (some x) (all_some h) w e = let f : x ≡ w = cc in rw (← f) (subtype→Subtype t x h.0, subtype→Subtype u x h.1)
  upper_of none all_none w e = absurd (let z : ◌≡◌ {A = ℕ} 0 1 = cc in omega arith)

  least_of : {x : Ty} (o : Option Ty) → Any? (λ w. T (subtype parent w x)) o → (w : Ty) → o ≡ some w → Subtype parent w x
  least_of {x} (some y) (any_some h) w e = let f : y ≡ w = cc in rw (← f) (subtype→Subtype y x h)
  least_of {x = x} none x3 w e = elim x3 [ ]

  there : {P : Ty → Type 0} (o : Option Ty) → Any? P o → (w : Ty) × (o ≡ some w)
  there (some y) (any_some h) = (y, refl)
  there {P = P} none x' = elim x' [ ]

  -- a type above both leaves no `none`
  not_none : {P : Ty → Type 0} (o : Option Ty) → Any? P o → o ≡ none → ⊥
  not_none (some y) (any_some h) e = let z : ◌≡◌ {A = ℕ} 0 1 = cc in omega arith
  not_none {P = P} none x'' e = elim x'' [ ]

  least_some : (t u x : Ty) → Subtype parent t x → Subtype parent u x → Any? (λ w. T (subtype parent w x)) (join parent t u)
  least_some t u x p q = join_least parent small t u x (Subtype→subtype p) (Subtype→subtype q)

  -- where nothing is above both, there is no common type
  no_some : {t u : Ty} (o : Option Ty) → All? (λ w. T (subtype parent t w) × T (subtype parent u w)) o → ((x : Ty) → Subtype parent t x → Subtype parent u x → ⊥) → o ≡ none
  no_some none h k = refl
  no_some {t} {u} (some w) (all_some h) k = absurd (k w (subtype→Subtype t w h.0) (subtype→Subtype u w h.1))

  -- of two least upper bounds each is below the other
  one_join : (t u : Ty) (o q : Option Ty) → All? (λ w. T (subtype parent t w) × T (subtype parent u w)) o → All? (λ w. T (subtype parent u w) × T (subtype parent t w)) q
      → ((x : Ty) → T (subtype parent t x) → T (subtype parent u x) → Any? (λ w. T (subtype parent w x)) o)
      → ((x : Ty) → T (subtype parent u x) → T (subtype parent t x) → Any? (λ w. T (subtype parent w x)) q) → o ≡ q
  one_join t u none none h k f g = refl
  one_join t u none (some y) h (all_some k) f g = absurd (not_none none (f y k.1 k.0) refl)
  one_join t u (some x) none (all_some h) k f g = absurd (not_none none (g x h.1 h.0) refl)
  one_join t u (some x) (some y) (all_some h) (all_some k) f g = ap some (subtype_anti parent small x y (at_any (f y k.1 k.0)) (at_any (g x h.1 h.0)))

pub subtyping : SubtypingLaw
subtyping parent small = record {
  test_exact = λ t u. (subtype→Subtype parent small t u, Subtype→subtype parent small);
  same_below = λ t. reflexive;
  goes_on = λ t u w. transitive;
  both_ways = λ t u p q. subtype_anti parent small t u (Subtype→subtype parent small p) (Subtype→subtype parent small q);
}

pub common_type : CommonTypeLaw
common_type parent small t u = record {
  upper = upper_of parent small (join parent t u) (join_upper parent small t u);
  least = λ w x e p q. least_of parent small (join parent t u) (least_some parent small t u x p q) w e;
  exists = λ x p q. there parent small (join parent t u) (least_some parent small t u x p q);
  none_exact = (
    λ e x p q. not_none parent small (join parent t u) (least_some parent small t u x p q) e,
    no_some parent small (join parent t u) (join_upper parent small t u),
  );
  either_way = one_join parent small t u (join parent t u) (join parent u t) (join_upper parent small t u) (join_upper parent small u t)
      (join_least parent small t u) (join_least parent small u t);
}
