-- Laws of the class table: parents, climbing, the nearest common class. Assumes nothing.
use mathlib.Core.Path.{◌≡◌, refl, sym, ap, ◌∙◌}
use mathlib.Core.Bool.{Bool, true, false}
use mathlib.Core.Option.{Option, none, some}
use mathlib.Core.List.{List}
use Prim.Native.Nat.{ℕ, zero, suc, ◌-◌, ◌≤◌, ◌<◌}
use native.Mathlib.Omega.{arith}
use lib.ListN.{get_or, length, get_or-eq_default}
use lib.Dec.{leb}
use borrow.Author.Tests.{ne_eqb, lt-leb, le-leb, leb-true}
use Rattle.std.specs.Prelude.{if◌then◌else◌}
use Rattle.laws.proofs.Tests.{test_true, test_same}
use Rattle.ocl.specs.Types.{Simple, any, class, Parents, parent_or, up, height, simple_code, same_simple, climbs, simple_subtype, first_above, simple_join}
use Rattle.ocl.specs.Laws.{Small}
use Rattle.ocl.proofs.SimpleTypes.{here, height_zero, height_up, climbs→climb, climb→climbs, simpleSubtype→climb, climb→simpleSubtype}
use Rattle.types.specs.Flat.{parent_word, parent_of, parents_in}

-- ---- a class's word

pub parent_off : (ps : List ℕ) (c : ℕ) → length ps ≤ c → 0 ≡ parent_word ps c
unfolding parent_word
parent_off ps c h = rw (get_or-eq_default ps 0 h, le-leb 0 c (omega arith))

pub parent_is : (ps : List ℕ) (c at : ℕ) → at ≡ c → get_or ps at 0 ≤ c → get_or ps at 0 ≡ parent_word ps c
unfolding parent_word
parent_is ps c at e h = rw e (rw (le-leb (get_or ps c 0) c (rw e at h)))

pub parent_not : (ps : List ℕ) (c at : ℕ) → at ≡ c → c < get_or ps at 0 → 0 ≡ parent_word ps c
unfolding parent_word
parent_not ps c at e h = rw (lt-leb (get_or ps c 0) c (rw e at h))

word_by : (q c : ℕ) (x : Bool) → leb q c ≡ x → (if x then q else 0) ≤ c
word_by q c true e = leb-true q c e
word_by q c false e = omega arith

pub parent_le : (ps : List ℕ) (c : ℕ) → parent_word ps c ≤ c
unfolding parent_word
parent_le ps c = word_by (get_or ps c 0) c (leb (get_or ps c 0) c) refl

-- a climb ends: a parent is smaller
pub parent_falls : (ps : List ℕ) (c q : ℕ) → q ≡ parent_word ps c → (q ≡ 0 → ⊥) → q - 1 < c
parent_falls ps c q e n = let l = parent_le ps c in omega arith

small_by : (n p q : ℕ) → q ≤ n → parent_of q ≡ some p → p < n
small_by n p zero h e = absurd (let z : ◌≡◌ {A = ℕ} 0 1 = cc in omega arith)
small_by n p (suc q) h e = let z : q ≡ p = cc in omega arith

-- in every table a parent is a smaller class
pub parents_small : (ps : List ℕ) → Small (parents_in ps)
unfolding parents_in
parents_small ps n p e = small_by n p (parent_word ps n) (parent_le ps n) e

pub parent_none : (ps : List ℕ) (c : ℕ) → parent_word ps c ≡ 0 → parents_in ps c ≡ none
unfolding parents_in
parent_none ps c e = ap parent_of e

pub parent_some : (ps : List ℕ) (c q : ℕ) → q ≡ parent_word ps c → (q ≡ 0 → ⊥) → parents_in ps c ≡ some (q - 1)
unfolding parents_in
parent_some ps c zero e n = absurd (n refl)
parent_some ps c (suc q) e n = ap parent_of (sym e) ∙ ap some (omega arith)

-- ---- climbing

other_class : (c d : ℕ) → (c ≡ d → ⊥) → same_simple (class c) (class d) ≡ false
unfolding same_simple simple_code
other_class c d h = ne_eqb (suc (suc (suc (suc c)))) (suc (suc (suc (suc d)))) (λ e. omega arith)

climbs_any : (parent : Parents) (f d : ℕ) → climbs parent f any (class d) ≡ false
unfolding climbs same_simple simple_code up
climbs_any parent zero d = ne_eqb 0 (suc (suc (suc (suc d)))) (λ e. omega arith)
climbs_any parent (suc f) d = rw (ne_eqb 0 (suc (suc (suc (suc d)))) (λ e. omega arith)) (climbs_any parent f d)

pub any_not_class : (parent : Parents) (d : ℕ) → simple_subtype parent any (class d) ≡ false
unfolding simple_subtype height
any_not_class parent d = climbs_any parent 0 d

any_either : (t : Bool) (y : Simple) → y ≡ any → (if t then any else y) ≡ any
any_either true y e = refl
any_either false y e = e

module _ (ps : List ℕ) where
  abbrev P : Parents
  P = parents_in ps

  climbs_more : (f : ℕ) (a x : Simple) → height a ≤ f → climbs P f a x ≡ simple_subtype P a x
  climbs_more f a x h = test_same _ _ (λ t. climb→simpleSubtype P (parents_small ps) a x (climbs→climb P f a x t)) (λ t. climb→climbs P (parents_small ps) f a x h (simpleSubtype→climb P (parents_small ps) a x t))

  pub below_same : (c d : ℕ) → c ≡ d → true ≡ simple_subtype P (class c) (class d)
  below_same c d e = rw e (sym (test_true _ (climb→simpleSubtype P (parents_small ps) (class d) (class d) here)))

  pub below_none : (c d : ℕ) → (c ≡ d → ⊥) → 0 ≡ parent_word ps c → false ≡ simple_subtype P (class c) (class d)
  unfolding simple_subtype climbs up parent_or height
  below_none c d n e = rw (other_class c d n, parent_none ps c (sym e), climbs_any P c d)

  pub below_up : (c d q : ℕ) → (c ≡ d → ⊥) → q ≡ parent_word ps c → (q ≡ 0 → ⊥) → simple_subtype P (class (q - 1)) (class d) ≡ simple_subtype P (class c) (class d)
  unfolding simple_subtype climbs up parent_or height
  below_up c d q n e z = rw (other_class c d n, parent_some ps c q e z) (sym (climbs_more c (class (q - 1)) (class d) (let l = parent_le ps c in omega arith)))

  -- ---- the nearest common class

  above_any : (f : ℕ) (x : Simple) → first_above P f any x ≡ any
  unfolding first_above up
  above_any zero x = refl
  above_any (suc f) x = any_either (simple_subtype P x any) (first_above P f any x) (above_any f x)

  above_more : (f g : ℕ) (a x : Simple) → height a ≤ f → height a ≤ g → first_above P f a x ≡ first_above P g a x
  unfolding first_above
  above_more zero g a x h k = rw (height_zero a h) (sym (above_any g x))
  above_more (suc f) zero a x h k = rw (height_zero a k) (above_any (suc f) x)
  above_more (suc f) (suc g) a x h k = ap (λ (y : Simple). if simple_subtype P x a then a else y) (above_more f g (up P a) x (height_up P (parents_small ps) a f h) (height_up P (parents_small ps) a g k))

  pub common_here : (c d : ℕ) → true ≡ simple_subtype P (class d) (class c) → simple_join P (class c) (class d) ≡ class c
  unfolding simple_join first_above height
  common_here c d e = rw (sym e)

  pub common_none : (c d : ℕ) → false ≡ simple_subtype P (class d) (class c) → 0 ≡ parent_word ps c → simple_join P (class c) (class d) ≡ any
  unfolding simple_join first_above height up parent_or
  common_none c d e z = rw (sym e, parent_none ps c (sym z)) (above_any c (class d))

  pub common_up : (c d q : ℕ) → false ≡ simple_subtype P (class d) (class c) → q ≡ parent_word ps c → (q ≡ 0 → ⊥) → simple_join P (class (q - 1)) (class d) ≡ simple_join P (class c) (class d)
  unfolding simple_join first_above height up parent_or
  common_up c d q e w z = rw (sym e, parent_some ps c q w z) (above_more (suc (q - 1)) c (class (q - 1)) (class d) (omega arith) (let l = parent_le ps c in omega arith))

  -- a class and what is below no class have only Any in common
  above_parent : (b : Simple) (f : ℕ) → ((c : ℕ) → first_above P f (class c) b ≡ any) → (o : Option ℕ) → first_above P f (parent_or o) b ≡ any
  unfolding parent_or
  above_parent b f ih none = above_any f b
  above_parent b f ih (some p) = ih p

  above_class : (b : Simple) → ((c : ℕ) → simple_subtype P b (class c) ≡ false) → (f c : ℕ) → first_above P f (class c) b ≡ any
  unfolding first_above up
  above_class b h zero c = refl
  above_class b h (suc f) c = rw (h c) (above_parent b f (above_class b h f) (P c))

  pub class_join : (b : Simple) → ((c : ℕ) → simple_subtype P b (class c) ≡ false) → (c : ℕ) → simple_join P (class c) b ≡ any
  unfolding simple_join
  class_join b h c = above_class b h (height (class c)) c
