-- Simple types: a chain of steps up is the subtype test, the common simple type is the least above both, and what a chain from a class
-- or from another simple type leads to. Assumes nothing.
use mathlib.Core.Path.{◌≡◌, refl, sym, ap, ◌∙◌, subst}
use mathlib.Core.Bool.{Bool, true, false}
use mathlib.Core.Option.{Option, none, some}
use Prim.Native.Nat.{ℕ, zero, suc, ◌≤◌}
use native.Mathlib.Omega.{arith}
use lib.Dec.{T, eqb→eq, eqb_refl, T_not}
use Rattle.ocl.specs.Types.{Simple, any, boolean, integer, real, class, Parents, parent_or, up, height, simple_code, same_simple, climbs, simple_subtype, first_above}
use Rattle.ocl.specs.Laws.{Small}
use Rattle.laws.proofs.Tests.{or_l, or_r, or-e, by-if}

-- ---- equality, by a number with a way back

decode : ℕ → Simple
decode zero = any
decode (suc zero) = boolean
decode (suc (suc zero)) = integer
decode (suc (suc (suc zero))) = real
decode (suc (suc (suc (suc n)))) = class n

decode_simple : (a : Simple) → decode (simple_code a) ≡ a
unfolding decode simple_code
decode_simple any = refl
decode_simple boolean = refl
decode_simple integer = refl
decode_simple real = refl
decode_simple (class n) = refl

sameSimple→eq : (a b : Simple) → T (same_simple a b) → a ≡ b
unfolding same_simple
sameSimple→eq a b h = sym (decode_simple a) ∙ ap decode (eqb→eq _ _ h) ∙ decode_simple b

same_simple_refl : (a : Simple) → T (same_simple a a)
unfolding same_simple
same_simple_refl a = eqb_refl (simple_code a)

-- ---- the least relation: a chain of steps up

pub data Climb (parent : Parents) : Simple → Simple → Type 0 where
  here : {a : Simple} → Climb parent a a
  step : {a b : Simple} → Climb parent (up parent a) b → Climb parent a b

pub climb_trans : {parent : Parents} {a b c : Simple} → Climb parent a b → Climb parent b c → Climb parent a c
climb_trans here h = h
climb_trans (step g) h = step (climb_trans g h)

pub climb_eq : {parent : Parents} {a b : Simple} → a ≡ b → Climb parent a b
climb_eq {parent} {a} e = subst (λ x. Climb parent a x) e here

-- from Any the chain goes nowhere
climb_from_any : {parent : Parents} {a b : Simple} → Climb parent a b → a ≡ any → b ≡ any
unfolding up
climb_from_any here e = e
climb_from_any {parent} (step g) e = climb_from_any g (ap (up parent) e)

pub climbs→climb : (parent : Parents) (f : ℕ) (a b : Simple) → T (climbs parent f a b) → Climb parent a b
unfolding climbs
climbs→climb parent zero a b h = climb_eq (sameSimple→eq a b h)
climbs→climb parent (suc f) a b h =
    or-e (same_simple a b) (climbs parent f (up parent a) b) h (λ p. climb_eq (sameSimple→eq a b p)) (λ p. step (climbs→climb parent f (up parent a) b p))

pub height_zero : (a : Simple) → height a ≤ 0 → a ≡ any
unfolding height
height_zero any h = refl
height_zero boolean h = absurd (omega arith)
height_zero integer h = absurd (omega arith)
height_zero real h = absurd (omega arith)
height_zero (class n) h = absurd (omega arith)

module _ (parent : Parents) (small : Small parent) where
  height_parent : (n : ℕ) (o : Option ℕ) → parent n ≡ o → height (parent_or o) ≤ n
  unfolding height parent_or
  height_parent n none e = omega arith
  height_parent n (some p) e = small n p e

  pub height_up : (a : Simple) (f : ℕ) → height a ≤ suc f → height (up parent a) ≤ f
  unfolding height up
  height_up any f h = omega arith
  height_up boolean f h = omega arith
  height_up integer f h = omega arith
  height_up real f h = omega arith
  height_up (class n) f h = let r = height_parent n (parent n) refl in omega arith

  pub climb→climbs : (f : ℕ) (a b : Simple) → height a ≤ f → Climb parent a b → T (climbs parent f a b)
  unfolding climbs
  climb→climbs zero a b h g =
      let e = height_zero a h in
      subst (λ x. T (same_simple a x)) (e ∙ sym (climb_from_any g e)) (same_simple_refl a)
  climb→climbs (suc f) a b h here = or_l (same_simple a a) (climbs parent f (up parent a) a) (same_simple_refl a)
  climb→climbs (suc f) a b h (step g) = or_r (same_simple a b) (climbs parent f (up parent a) b) (climb→climbs f (up parent a) b (height_up a f h) g)

  top_f : (f : ℕ) (a : Simple) → height a ≤ f → Climb parent a any
  top_f zero a h = climb_eq (height_zero a h)
  top_f (suc f) a h = step (top_f f (up parent a) (height_up a f h))

  pub top : (a : Simple) → Climb parent a any
  top a = top_f (height a) a (omega arith)

  pub simpleSubtype→climb : (a b : Simple) → T (simple_subtype parent a b) → Climb parent a b
  unfolding simple_subtype
  simpleSubtype→climb a b h = climbs→climb parent (height a) a b h

  pub climb→simpleSubtype : (a b : Simple) → Climb parent a b → T (simple_subtype parent a b)
  unfolding simple_subtype
  climb→simpleSubtype a b g = climb→climbs (height a) a b (omega arith) g

  -- a chain goes nowhere or falls in rank, so two chains that meet are none
  climb_height : {a b : Simple} → Climb parent a b → height b ≤ height a
  climb_height here = omega arith
  climb_height (step {a} g) = let r = height_up a (height a) (omega arith) in let s = climb_height g in omega arith

  pub climb_anti_at : (r : ℕ) (a b : Simple) → height a ≡ r → Climb parent a b → Climb parent b a → a ≡ b
  climb_anti_at r a b e here k = refl
  climb_anti_at zero a b e (step g) k = let z = height_zero a (omega arith) in z ∙ sym (climb_from_any (step g) z)
  climb_anti_at (suc r) a b e (step g) k =
      let p = height_up a r (omega arith) in let q = climb_height g in let s = climb_height k in absurd (omega arith)

  -- the common simple type: an upper bound, and the least
  pub above_left : (f : ℕ) (a b : Simple) → Climb parent a (first_above parent f a b)
  unfolding first_above
  above_left zero a b = top a
  above_left (suc f) a b = by-if (λ x. Climb parent a x) (simple_subtype parent b a) a (first_above parent f (up parent a) b) (λ t. here) (λ t. step (above_left f (up parent a) b))

  pub above_right : (f : ℕ) (a b : Simple) → Climb parent b (first_above parent f a b)
  unfolding first_above
  above_right zero a b = top b
  above_right (suc f) a b = by-if (λ x. Climb parent b x) (simple_subtype parent b a) a (first_above parent f (up parent a) b) (λ t. simpleSubtype→climb b a t) (λ t. above_right f (up parent a) b)

  pub above_least : (f : ℕ) (a b c : Simple) → height a ≤ f → Climb parent a c → Climb parent b c → Climb parent (first_above parent f a b) c
  unfolding first_above
  above_least zero a b c h g k = subst (λ x. Climb parent x c) (height_zero a h) g
  above_least (suc f) a b c h here k = by-if (λ x. Climb parent x a) (simple_subtype parent b a) a (first_above parent f (up parent a) b) (λ t. here) (λ t. absurd (T_not (simple_subtype parent b a) t (climb→simpleSubtype b a k)))
  above_least (suc f) a b c h (step g) k = by-if (λ x. Climb parent x c) (simple_subtype parent b a) a (first_above parent f (up parent a) b) (λ t. step g) (λ t. above_least f (up parent a) b c (height_up a f h) g k)

-- ---- from a class a chain leads to classes and Any, from anything else to no class

from_class : Simple → Bool
from_class any = true
from_class boolean = false
from_class integer = false
from_class real = false
from_class (class n) = true

no_class : Simple → Bool
no_class any = true
no_class boolean = true
no_class integer = true
no_class real = true
no_class (class n) = false

from_class_parent : (o : Option ℕ) → T (from_class (parent_or o))
unfolding from_class parent_or
from_class_parent none = tt
from_class_parent (some p) = tt

from_class_up : (parent : Parents) (a : Simple) → T (from_class a) → T (from_class (up parent a))
unfolding from_class up
from_class_up parent any h = tt
from_class_up parent boolean h = tt
from_class_up parent integer h = absurd h
from_class_up parent real h = tt
from_class_up parent (class n) h = from_class_parent (parent n)

no_class_up : (parent : Parents) (a : Simple) → T (no_class a) → T (no_class (up parent a))
unfolding no_class up
no_class_up parent any h = tt
no_class_up parent boolean h = tt
no_class_up parent integer h = tt
no_class_up parent real h = tt
no_class_up parent (class n) h = absurd h

from_class_climb : {parent : Parents} {a b : Simple} → Climb parent a b → T (from_class a) → T (from_class b)
from_class_climb here h = h
from_class_climb {parent} (step {a} g) h = from_class_climb g (from_class_up parent a h)

no_class_climb : {parent : Parents} {a b : Simple} → Climb parent a b → T (no_class a) → T (no_class b)
no_class_climb here h = h
no_class_climb {parent} (step {a} g) h = no_class_climb g (no_class_up parent a h)

pub class_not_boolean : (parent : Parents) (n : ℕ) → T (simple_subtype parent (class n) boolean) → ⊥
unfolding simple_subtype from_class
class_not_boolean parent n h = from_class_climb (climbs→climb parent _ _ _ h) tt

pub class_not_integer : (parent : Parents) (n : ℕ) → T (simple_subtype parent (class n) integer) → ⊥
unfolding simple_subtype from_class
class_not_integer parent n h = from_class_climb (climbs→climb parent _ _ _ h) tt

pub class_not_real : (parent : Parents) (n : ℕ) → T (simple_subtype parent (class n) real) → ⊥
unfolding simple_subtype from_class
class_not_real parent n h = from_class_climb (climbs→climb parent _ _ _ h) tt

pub boolean_not_class : (parent : Parents) (n : ℕ) → T (simple_subtype parent boolean (class n)) → ⊥
unfolding simple_subtype no_class
boolean_not_class parent n h = no_class_climb (climbs→climb parent _ _ _ h) tt

pub integer_not_class : (parent : Parents) (n : ℕ) → T (simple_subtype parent integer (class n)) → ⊥
unfolding simple_subtype no_class
integer_not_class parent n h = no_class_climb (climbs→climb parent _ _ _ h) tt

pub real_not_class : (parent : Parents) (n : ℕ) → T (simple_subtype parent real (class n)) → ⊥
unfolding simple_subtype no_class
real_not_class parent n h = no_class_climb (climbs→climb parent _ _ _ h) tt
