-- What an option's result tells of its parts. Assumes nothing.
use mathlib.Core.Path.{◌≡◌, refl}
use mathlib.Core.Bool.{Bool, true, false}
use mathlib.Core.Option.{Option, none, some, none-ne-some, some-injective}
use lib.Dec.{T}
use Rattle.laws.specs.Choice.{or_else, on_some, map_some}
use Rattle.std.specs.Prelude.{if◌then◌else◌}

pub if_some : {A : Type 0} (b : Bool) (x : A) {y : A} → (if b then some x else none) ≡ some y → T b × (x ≡ y)
if_some true x e = (tt, some-injective _ _ e)
if_some false x e = absurd (none-ne-some _ e)

-- ---- the first of options that is there

pub or_else_none : {A : Type 0} (o : Option A) → or_else o none ≡ o
unfolding or_else
or_else_none none = refl
or_else_none (some x) = refl

pub or_else_assoc : {A : Type 0} (o p q : Option A) → or_else (or_else o p) q ≡ or_else o (or_else p q)
unfolding or_else
or_else_assoc none p q = refl
or_else_assoc (some x) p q = refl

-- ---- an option with a content, taken apart

pub or_else_some : {A C : Type 0} (o q : Option A) {x : A} → or_else o q ≡ some x → (o ≡ some x → C) → (q ≡ some x → C) → C
unfolding or_else
or_else_some none q e f g = g e
or_else_some (some y) q e f g = f e

pub on_some_some : {A B : Type 0} (o : Option A) (f : A → Option B) {y : B} → on_some o f ≡ some y → (x : A) × (o ≡ some x) × (f x ≡ some y)
unfolding on_some
on_some_some none f e = absurd (none-ne-some _ e)
on_some_some (some x) f e = (x, refl, e)

pub map_some_some : {A B : Type 0} (f : A → B) (o : Option A) {y : B} → map_some f o ≡ some y → (x : A) × (o ≡ some x) × (f x ≡ y)
unfolding map_some
map_some_some f none e = absurd (none-ne-some _ e)
map_some_some f (some x) e = (x, refl, some-injective _ _ e)

-- ---- an option that leads nowhere

pub nowhere : {A B : Type 0} (o : Option A) (f : A → Option B) → ((x : A) → f x ≡ none) → on_some o f ≡ none
unfolding on_some
nowhere none f h = refl
nowhere (some x) f h = h x
