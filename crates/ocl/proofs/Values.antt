-- What is added to a collection, which values belong to a type, and that belonging goes up. Assumes nothing.
use mathlib.Core.Path.{◌≡◌, refl, sym, ap}
use mathlib.Core.Bool.{Bool, true, false, ◌&&◌}
use mathlib.Core.Option.{Option, none, some}
use Prim.Native.Nat.{ℕ, zero, suc, ◌+◌, ◌≤◌, ◌<◌, Ordering}
use native.Mathlib.Omega.{arith}
use lib.Dec.{T, eqb, eqb→eq}
use Rattle.laws.specs.Choice.{on_some, map_some}
use Rattle.ocl.specs.Types.{Simple, boolean, class, Kind, set, sequence, bag, exactly, Ty, void, simple, around, simple_subtype, letter_subtype, subtype, up, parent_or}
use Rattle.ocl.specs.Values.{Value, bool, num, obj, coll, Values, nil, cons, count, size, sizes, order, put, insert, append, add, add_all}
use Rattle.ocl.specs.Model.{Schema, Model, class_is_a, is_a, every, number_type, belongs, declared, nearest, row_read}
use Rattle.ocl.specs.Laws.{Small, BelongsUpLaw}
use Rattle.laws.proofs.Tests.{and_i, and_l, and_r, by-if, All?, all_none, all_some, all_imp, all_self, all_else, all_on}
use Rattle.ocl.proofs.SimpleTypes.{step, Climb, climb_trans, climb_eq, simpleSubtype→climb, climb→simpleSubtype}
use Rattle.ocl.proofs.Types.{letter_trans}
use Rattle.ocl.proofs.Subtyping.{Subtype→subtype}

-- ---- every member

pub data Every (P : Value → Type 0) : Values → Type 0 where
  every_nil : Every P nil
  every_cons : {v : Value} {vs : Values} → P v → Every P vs → Every P (cons v vs)

pub every_imp : {P Q : Value → Type 0} {vs : Values} → ((v : Value) → P v → Q v) → Every P vs → Every Q vs
every_imp f every_nil = every_nil
every_imp f (every_cons {v} p h) = every_cons (f v p) (every_imp f h)

pub every_by : {P : Value → Type 0} (f : Value → Bool) (vs : Values) → ((v : Value) → T (f v) → P v) → T (every f vs) → Every P vs
unfolding every
every_by f nil g h = every_nil
every_by f (cons v vs) g h = every_cons (g v (and_l (f v) _ h)) (every_by f vs g (and_r (f v) _ h))

pub every_test : {P : Value → Type 0} (f : Value → Bool) {vs : Values} → ((v : Value) → P v → T (f v)) → Every P vs → T (every f vs)
unfolding every
every_test f g every_nil = tt
every_test f g (every_cons {v} {vs} p h) = and_i (f v) (every f vs) (g v p) (every_test f g h)

-- one member more, if each is there
pub all_each : {P : Value → Type 0} {o : Option Value} {os : Option Values} → All? P o → All? (Every P) os → All? (Every P) (on_some o (λ w. map_some (cons w) os))
unfolding on_some map_some
all_each all_none h = all_none
all_each (all_some p) all_none = all_none
all_each (all_some p) (all_some h) = all_some (every_cons p h)

-- ---- what is added

put_every : {P : Value → Type 0} (b : Bool) (o : Ordering) (v w : Value) {ws more : Values} → P v → P w → Every P ws → Every P more → Every P (put b o v w ws more)
unfolding put
put_every b Ordering.lt v w p q r s = every_cons p (every_cons q r)
put_every true Ordering.eq v w p q r s = every_cons p (every_cons q r)
put_every false Ordering.eq v w p q r s = every_cons q r
put_every b Ordering.gt v w p q r s = every_cons q s

insert_every : {P : Value → Type 0} (b : Bool) (v : Value) {vs : Values} → P v → Every P vs → Every P (insert b v vs)
unfolding insert
insert_every b v p every_nil = every_cons p every_nil
insert_every b v p (every_cons {v = w} q h) = put_every b (order v w) v w p q h (insert_every b v p h)

pub append_every : {P : Value → Type 0} (v : Value) {vs : Values} → P v → Every P vs → Every P (append v vs)
unfolding append
append_every v p every_nil = every_cons p every_nil
append_every v p (every_cons q h) = every_cons q (append_every v p h)

pub add_every : {P : Value → Type 0} (k : Kind) (v : Value) {vs : Values} → P v → Every P vs → Every P (add k v vs)
unfolding add
add_every set v p h = insert_every false v p h
add_every sequence v p h = append_every v p h
add_every bag v p h = insert_every true v p h

pub add_all_every : {P : Value → Type 0} (k : Kind) {vs acc : Values} → Every P vs → Every P acc → Every P (add_all k vs acc)
unfolding add_all
add_all_every k every_nil a = a
add_all_every k (every_cons {v} p h) a = add_all_every k h (add_every k v p a)

-- ---- sizes

pub size_pos : (v : Value) → 1 ≤ size v
unfolding size
size_pos (bool b) = omega arith
size_pos (num x) = omega arith
size_pos (obj o) = omega arith
size_pos (coll k vs) = omega arith

pub count_sizes : (vs : Values) → count vs ≤ sizes vs
unfolding size count
count_sizes nil = omega arith
count_sizes (cons v vs) = let p = size_pos v in let q = count_sizes vs in omega arith

-- a Bag grows by what is put in
put_sizes : (o : Ordering) (v w : Value) (ws further : Values) → sizes further ≡ size v + sizes ws → sizes (put true o v w ws further) ≡ size v + sizes (cons w ws)
unfolding put size
put_sizes Ordering.lt v w ws further h = refl
put_sizes Ordering.eq v w ws further h = refl
put_sizes Ordering.gt v w ws further h = omega arith

pub insert_sizes : (v : Value) (vs : Values) → sizes (insert true v vs) ≡ size v + sizes vs
unfolding insert size
insert_sizes v nil = refl
insert_sizes v (cons w ws) = put_sizes (order v w) v w ws (insert true v ws) (insert_sizes v ws)

-- ---- belonging, with members as a predicate

unfoldable pub Belongs : Model → Ty → Value → Type 0
Belongs s void v = ⊥
Belongs s (simple b) (bool x) = T (simple_subtype s.parent boolean b)
Belongs s (simple b) (num x) = T (simple_subtype s.parent (number_type x) b)
Belongs s (simple b) (obj o) = T (is_a s o b)
Belongs s (simple b) (coll k vs) = ⊥
Belongs s (around l t) (bool x) = ⊥
Belongs s (around l t) (num x) = ⊥
Belongs s (around l t) (obj o) = ⊥
Belongs s (around l t) (coll k vs) = T (letter_subtype (exactly k) l) × Every (Belongs s t) vs

pub belongs_by : (s : Model) (t : Ty) (v : Value) → T (belongs s t v) → Belongs s t v
unfolding belongs Belongs
belongs_by s void v h = h
belongs_by s (simple b) (bool x) h = h
belongs_by s (simple b) (num x) h = h
belongs_by s (simple b) (obj o) h = h
belongs_by s (simple b) (coll k vs) h = h
belongs_by s (around l t) (bool x) h = h
belongs_by s (around l t) (num x) h = h
belongs_by s (around l t) (obj o) h = h
belongs_by s (around l t) (coll k vs) h = (and_l (letter_subtype (exactly k) l) _ h, every_by (belongs s t) vs (belongs_by s t) (and_r (letter_subtype (exactly k) l) _ h))

pub belongs_test : (s : Model) (t : Ty) (v : Value) → Belongs s t v → T (belongs s t v)
unfolding belongs Belongs
belongs_test s void v h = h
belongs_test s (simple b) (bool x) h = h
belongs_test s (simple b) (num x) h = h
belongs_test s (simple b) (obj o) h = h
belongs_test s (simple b) (coll k vs) h = h
belongs_test s (around l t) (bool x) h = h
belongs_test s (around l t) (num x) h = h
belongs_test s (around l t) (obj o) h = h
belongs_test s (around l t) (coll k vs) h = and_i (letter_subtype (exactly k) l) (every (belongs s t) vs) h.0 (every_test (belongs s t) (belongs_test s t) h.1)

-- row i is declared at class c or above
pub record Above (s : Schema) (c i : ℕ) : Type 0 where
  pub climb : Climb s.parent (class c) (class (s.row i).owner)

module _ (s : Model) (small : Small s.parent) where
  up_simple : (a b c : Simple) → T (simple_subtype s.parent a b) → T (simple_subtype s.parent b c) → T (simple_subtype s.parent a c)
  up_simple a b c p q =
      climb→simpleSubtype s.parent small a c
      (climb_trans (simpleSubtype→climb s.parent small a b p) (simpleSubtype→climb s.parent small b c q))

  class_up : (o : Option ℕ) (b c : Simple) → T (class_is_a s.parent o b) → T (simple_subtype s.parent b c) → T (class_is_a s.parent o c)
  unfolding class_is_a
  class_up none b c p q = p
  class_up (some n) b c p q = up_simple (class n) b c p q

  pub is_a_up : (o : ℕ) (b c : Simple) → T (is_a s o b) → T (simple_subtype s.parent b c) → T (is_a s o c)
  unfolding is_a
  is_a_up o b c p q = class_up (s.class_of o) b c p q

  pub belongs_up : (t u : Ty) → T (subtype s.parent t u) → (v : Value) → Belongs s t v → Belongs s u v
  unfolding Belongs subtype
  belongs_up void u h v b = absurd b
  belongs_up (simple a) void h v b = absurd h
  belongs_up (simple a) (simple c) h (bool x) b = up_simple boolean a c b h
  belongs_up (simple a) (simple c) h (num x) b = up_simple (number_type x) a c b h
  belongs_up (simple a) (simple c) h (obj o) b = is_a_up o a c b h
  belongs_up (simple a) (simple c) h (coll k vs) b = b
  belongs_up (simple a) (around l u) h v b = absurd h
  belongs_up (around k t) void h v b = absurd h
  belongs_up (around k t) (simple c) h v b = absurd h
  belongs_up (around k t) (around l u) h (bool x) b = b
  belongs_up (around k t) (around l u) h (num x) b = b
  belongs_up (around k t) (around l u) h (obj o) b = b
  belongs_up (around k t) (around l u) h (coll j vs) b =
      (letter_trans (exactly j) k l b.0 (and_l (letter_subtype k l) _ h), every_imp (belongs_up t u (and_r (letter_subtype k l) _ h)) b.1)

-- ---- the row found upward from a class is declared at that class or above it

module _ (s : Schema) where
  declared_at : (c name n : ℕ) → All? (λ i. (s.row i).owner ≡ c) (declared s c name n)
  unfolding declared
  declared_at c name zero = all_none
  declared_at c name (suc n) =
      by-if (All? (λ i. (s.row i).owner ≡ c)) (eqb (s.row n).owner c && eqb (s.row n).name name) (some n) (declared s c name n)
      (λ t. all_some (eqb→eq _ _ (and_l (eqb (s.row n).owner c) _ t))) (λ t. declared_at c name n)

  declared_above : (c name : ℕ) → All? (Above s c) (declared s c name s.row_count)
  declared_above c name = all_imp (λ i e. record { climb = climb_eq (ap class (sym e)) }) (declared_at c name s.row_count)

  nearest_above : (name n c : ℕ) → All? (Above s c) (nearest s name n c)
  unfolding nearest up parent_or
  nearest_above name zero c = all_none
  nearest_above name (suc n) c =
      all_else (declared_above c name)
      (all_on (all_self (s.parent c))
      (λ p e. all_imp (λ i g. record { climb = step (climb_trans (climb_eq (ap parent_or e)) g.climb) }) (nearest_above name n p)))

  pub row_read_above : (c name : ℕ) → All? (Above s c) (row_read s c name)
  unfolding row_read
  row_read_above c name = nearest_above name (suc c) c

-- a value that belongs to a type belongs to every type above it
pub belongs_monotone : BelongsUpLaw
belongs_monotone s small t u v h b = belongs_test s u v (belongs_up s small t u (Subtype→subtype s.parent small h) v (belongs_by s t v b))

-- ---- and it is one of the rows

module _ (s : Schema) where
  declared_row : (c name n : ℕ) → All? (λ i. i < n) (declared s c name n)
  unfolding declared
  declared_row c name zero = all_none
  declared_row c name (suc n) =
      by-if (All? (λ i. i < suc n)) (eqb (s.row n).owner c && eqb (s.row n).name name) (some n) (declared s c name n)
      (λ t. all_some (omega arith)) (λ t. all_imp (λ i h. omega arith) (declared_row c name n))

  nearest_row : (name n c : ℕ) → All? (λ i. i < s.row_count) (nearest s name n c)
  unfolding nearest
  nearest_row name zero c = all_none
  nearest_row name (suc n) c = all_else (declared_row c name s.row_count) (all_on (all_self (s.parent c)) (λ p e. nearest_row name n p))

  pub row_read_row : (c name : ℕ) → All? (λ i. i < s.row_count) (row_read s c name)
  unfolding row_read
  row_read_row c name = nearest_row name (suc c) c
