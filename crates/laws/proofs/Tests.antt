-- Laws of tests and options that the other files share. Assumes nothing.
use mathlib.Core.Path.{◌≡◌, refl, sym}
use mathlib.Core.Bool.{Bool, true, false, not, ◌&&◌, ◌||◌, true≢false}
use mathlib.Core.Option.{Option, none, some}
use lib.Dec.{T}
use Rattle.laws.specs.Choice.{or_else, on_some}
use Rattle.std.specs.Prelude.{if◌then◌else◌}

pub and_i : (a b : Bool) → T a → T b → T (a && b)
and_i true b p q = q
and_i false b p q = p

pub and_l : (a b : Bool) → T (a && b) → T a
and_l true b p = tt
and_l false b p = p

pub and_r : (a b : Bool) → T (a && b) → T b
and_r true b p = p
and_r false b p = absurd p

-- the same of equations
pub and-true : (a b : Bool) → a && b ≡ true → (a ≡ true) × (b ≡ true)
and-true true b e = (refl, e)
and-true false b e = absurd (true≢false (sym e))

pub or-false : (a b : Bool) → a || b ≡ false → (a ≡ false) × (b ≡ false)
or-false true b e = absurd (true≢false e)
or-false false b e = (refl, e)

-- of three tests: the outer two tell all three, or leave it to the one between them
pub or_outer : (a b c : Bool) → (a || c) ≡ true → true ≡ (a || b || c)
or_outer true b c e = refl
or_outer false true c e = refl
or_outer false false c e = sym e

pub or_middle : (a b c : Bool) → (a || c) ≡ false → b ≡ (a || b || c)
or_middle true b c e = absurd (true≢false e)
or_middle false true c e = refl
or_middle false false c e = sym e

pub or-none : (a b c : Bool) → (a || b || c) ≡ false → ((a || c) ≡ false) × (b ≡ false)
or-none true b c e = absurd (true≢false e)
or-none false true c e = absurd (true≢false e)
or-none false false c e = (e, refl)

pub or_l : (a b : Bool) → T a → T (a || b)
or_l true b p = tt
or_l false b p = absurd p

pub or_r : (a b : Bool) → T b → T (a || b)
or_r true b p = tt
or_r false b p = p

pub or-e {ℓ} : {C : Type ℓ} (a b : Bool) → T (a || b) → (T a → C) → (T b → C) → C
or-e true b p f g = f tt
or-e false b p f g = g p

-- a choice by a test, proved by cases that know the test
pub by-if {κ} : {A : Type 0} (P : A → Type κ) (b : Bool) (x y : A) → (T b → P x) → (T (not b) → P y) → P (if b then x else y)
by-if P true x y f g = f tt
by-if P false x y f g = g tt

pub test_true : (b : Bool) → T b → b ≡ true
test_true true t = refl
test_true false t = absurd t

pub test_false : (b : Bool) → T (not b) → b ≡ false
test_false true t = absurd t
test_false false t = refl

pub test_fails : (b : Bool) → (T b → ⊥) → b ≡ false
test_fails true h = absurd (h tt)
test_fails false h = refl

-- two tests that say the same
pub test_same : (a b : Bool) → (T a → T b) → (T b → T a) → a ≡ b
test_same true b f g = sym (test_true b (f tt))
test_same false b f g = sym (test_fails b g)

-- by cases that know the test
pub by-test {ℓ} : {C : Type ℓ} (b : Bool) → (T b → C) → (T (not b) → C) → C
by-test true f g = f tt
by-test false f g = g tt

-- a choice that is none
pub if_same : {A : Type 0} (b : Bool) (x : A) → (if b then x else x) ≡ x
if_same true x = refl
if_same false x = refl

-- two choices by one test
pub same_choice : {A : Type 0} (b : Bool) {x y z w : A} → (T b → x ≡ z) → (T (not b) → y ≡ w) → (if b then x else y) ≡ (if b then z else w)
same_choice true f g = f tt
same_choice false f g = g tt

-- ---- options: All? holds of the value if there is one, Any? also says that there is one

pub data All? {A : Type 0} (P : A → Type 0) : Option A → Type 0 where
  all_none : All? P none
  all_some : {x : A} → P x → All? P (some x)

pub data Any? {A : Type 0} (P : A → Type 0) : Option A → Type 0 where
  any_some : {x : A} → P x → Any? P (some x)

pub all_self : {A : Type 0} (o : Option A) → All? (λ x. o ≡ some x) o
all_self none = all_none
all_self (some x) = all_some refl

pub all_imp : {A : Type 0} {P Q : A → Type 0} {o : Option A} → ((x : A) → P x → Q x) → All? P o → All? Q o
all_imp k all_none = all_none
all_imp k (all_some {x} h) = all_some (k x h)

pub at_some : {A : Type 0} {P : A → Type 0} {x : A} → All? P (some x) → P x
at_some (all_some h) = h

pub at_any : {A : Type 0} {P : A → Type 0} {x : A} → Any? P (some x) → P x
at_any (any_some h) = h

pub all_else : {A : Type 0} {P : A → Type 0} {o q : Option A} → All? P o → All? P q → All? P (or_else o q)
unfolding or_else
all_else all_none k = k
all_else (all_some h) k = all_some h

pub all_on : {A B : Type 0} {P : A → Type 0} {Q : B → Type 0} {o : Option A} {f : A → Option B} → All? P o → ((x : A) → P x → All? Q (f x)) → All? Q (on_some o f)
unfolding on_some
all_on all_none k = all_none
all_on (all_some {x} h) k = k x h
