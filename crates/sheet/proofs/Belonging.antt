-- Belonging looks at classes alone. Assumes nothing.
use mathlib.Core.Path.{◌≡◌, refl, ap}
use mathlib.Core.Bool.{Bool, ◌&&◌}
use Prim.Native.Nat.{ℕ}
use Rattle.ocl.specs.Types.{Simple, Ty, void, simple, around, letter_subtype, exactly}
use Rattle.ocl.specs.Values.{Value, bool, num, obj, coll, Values, nil, cons}
use Rattle.ocl.specs.Model.{Model, every, is_a, belongs}

module _ (m n : Model) (p : m.parent ≡ n.parent) (q : m.class_of ≡ n.class_of) where
  is_a_same : (o : ℕ) (b : Simple) → is_a m o b ≡ is_a n o b
  unfolding is_a
  is_a_same o b = rw (p, q)

  every_same : (f g : Value → Bool) → ((v : Value) → f v ≡ g v) → (vs : Values) → every f vs ≡ every g vs
  unfolding every
  every_same f g h nil = refl
  every_same f g h (cons v vs) = rw (h v, every_same f g h vs)

  pub belongs_same : (t : Ty) (v : Value) → belongs m t v ≡ belongs n t v
  unfolding belongs
  belongs_same void v = refl
  belongs_same (simple b) (bool x) = rw p
  belongs_same (simple b) (num x) = rw p
  belongs_same (simple b) (obj o) = is_a_same o b
  belongs_same (simple b) (coll k vs) = refl
  belongs_same (around l t) (bool x) = refl
  belongs_same (around l t) (num x) = refl
  belongs_same (around l t) (obj o) = refl
  belongs_same (around l t) (coll k vs) = ap (λ x. letter_subtype (exactly k) l && x) (every_same (belongs m t) (belongs n t) (belongs_same t) vs)
