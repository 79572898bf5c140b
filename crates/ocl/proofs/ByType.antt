-- Values of a type, and runs that end in them: what a value of a type is, and so what an operand of it may be handed. Assumes nothing.
use mathlib.Core.Bool.{Bool, true, false}
use mathlib.Core.Option.{Option, none, some}
use Prim.Native.Nat.{ℕ, ◌≤◌}
use native.Mathlib.Omega.{arith}
use lib.IntN.{ℤ}
use lib.Dec.{T, eqb}
use Rattle.std.specs.Prelude.{if◌then◌else◌}
use Rattle.laws.proofs.Tests.{All?, all_none, all_some, Any?, any_some, all_imp}
use Rattle.reals.specs.Reals.{Number, int, real, Result}
use Rattle.ocl.specs.Environment.{Env, extend}
use Rattle.ocl.specs.Types.{Parents, boolean, integer, class, Kind, Letter, exactly, Ty, simple, around, Boolean, Integer, Real, Class, Simple, simple_subtype, letter_subtype, subtype, join, climbs, height, up, same_simple, simple_code}
use Rattle.ocl.specs.Values.{Value, bool, num, obj, coll, Values, nil, cons, count, size, sizes}
use Rattle.ocl.specs.Model.{Model, schema_of, class_is_a, is_a, number_type}
use Rattle.ocl.specs.Typing.{Answer, below}
use Rattle.ocl.specs.Operations.{Outcome, value, form, given, resulting, on_bool, on_int, on_obj, on_coll, is_int, is_coll, on_num, is_num}
use Rattle.ocl.specs.Evaluation.{Run, Gather}
use Rattle.ocl.specs.Soundness.{AcceptedModel}
use Rattle.ocl.proofs.SimpleTypes.{class_not_boolean, class_not_integer, class_not_real, boolean_not_class, integer_not_class, real_not_class}
use Rattle.ocl.proofs.Types.{join_upper}
use Rattle.ocl.proofs.Values.{Every, every_nil, every_cons, every_imp, count_sizes, Belongs, belongs_up}
use Rattle.ocl.proofs.Runs.{Safe, safe_value, safe_undefined, safe_form, safe_over, IsBool, safe_bool}
use Rattle.ocl.proofs.Ends.{Results, results, no_result_lem, over_range_lem}
use Rattle.ocl.proofs.Means.{Gives, no_type, gives_if}

-- a value of the type and of an allowed size
pub record Ok (s : Model) (t : Ty) (v : Value) : Type 0 where
  pub bel : Belongs s t v
  pub fits : size v ≤ 128

-- whatever belongs to t belongs to u
pub record Below (s : Model) (t u : Ty) : Type 0 where
  pub up_to : (v : Value) → Belongs s t v → Belongs s u v

pub record EnvOk (s : Model) (Γ : Env Ty) (ρ : Env Value) : Type 0 where
  pub vars : (i : ℕ) → All? (λ t. Any? (Ok s t) (ρ i)) (Γ i)

-- a run that is safe at type t, with at most k steps
pub record Sem (s : Model) (Γ : Env Ty) (k : ℕ) (t : Ty) (f : Run) : Type 0 where
  pub run : (ρ : Env Value) → EnvOk s Γ ρ → Safe (Ok s t) k (f ρ)

-- members that are gathered at each type above t
pub record SemAll (s : Model) (Γ : Env Ty) (k : ℕ) (t : Ty) (g : Gather) : Type 0 where
  pub runs : (ρ : Env Value) → EnvOk s Γ ρ → (w : Ty) → Below s t w → (c : Kind) (acc : Values) → Every (Belongs s w) acc → Safe (Ok s (around (exactly c) w)) k (g c acc ρ)

-- ---- what a value may be

pub data IsInt : Value → Type 0 where
  is_int_lem : {z : ℤ} → IsInt (num (int z))

pub int_sem : {P : Value → Type 0} {k : ℕ} {f : ℤ → ℕ → Outcome} {v : Value} → IsInt v → ((z : ℤ) → Safe P k (f z)) → Safe P k (λ n. on_int v (λ z. f z n))
int_sem (is_int_lem {z}) g = g z

pub int_fits : {v : Value} → IsInt v → T (is_int v)
int_fits is_int_lem = tt

pub data IsNum : Value → Type 0 where
  is_num_lem : {x : Number} → IsNum (num x)

pub num_sem : {P : Value → Type 0} {k : ℕ} {f : Number → ℕ → Outcome} {v : Value} → IsNum v → ((x : Number) → Safe P k (f x)) → Safe P k (λ n. on_num v (λ x. f x n))
num_sem (is_num_lem {x}) g = g x

pub num_fits : {v : Value} → IsNum v → T (is_num v)
num_fits is_num_lem = tt

pub data IsColl (s : Model) (l : Letter) (t : Ty) : Value → Type 0 where
  is_coll_lem : {k : Kind} {vs : Values} → T (letter_subtype (exactly k) l) → Every (Ok s t) vs → count vs ≤ 127 → IsColl s l t (coll k vs)

obj_not_boolean : (parent : Parents) (c : Option ℕ) → T (class_is_a parent c boolean) → ⊥
unfolding class_is_a
obj_not_boolean parent none h = h
obj_not_boolean parent (some c) h = class_not_boolean parent c h

obj_not_integer : (parent : Parents) (c : Option ℕ) → T (class_is_a parent c integer) → ⊥
unfolding class_is_a
obj_not_integer parent none h = h
obj_not_integer parent (some c) h = class_not_integer parent c h

obj_not_real : (parent : Parents) (c : Option ℕ) → T (class_is_a parent c Simple.real) → ⊥
unfolding class_is_a
obj_not_real parent none h = h
obj_not_real parent (some c) h = class_not_real parent c h

pub number_not_class : (parent : Parents) (x : Number) (c : ℕ) → T (simple_subtype parent (number_type x) (class c)) → ⊥
unfolding number_type
number_not_class parent (int z) c h = integer_not_class parent c h
number_not_class parent (real r) c h = real_not_class parent c h

-- ---- subtypes, where parents are smaller classes

module _ {s : Model} (ok : AcceptedModel s) where
  pub below_by : (t u : Ty) → T (subtype s.parent t u) → Below s t u
  below_by t u h = record { up_to = belongs_up s ok.parents_smaller t u h }

  pub gives_below : {G : Ty → Type 0} {a : Answer} (p : ℕ) (t u : Ty) → (Below s t u → Gives G a) → Gives G (below (schema_of s) p t u a)
  gives_below p t u g = gives_if (subtype s.parent t u) (λ h. g (below_by t u h)) no_type

  pub joined : (t u : Ty) → All? (λ w. Below s t w × Below s u w) (join s.parent t u)
  joined t u = all_imp (λ w h. (below_by t w h.0, below_by u w h.1)) (join_upper s.parent ok.parents_smaller t u)

module _ {s : Model} where
  pub below_same : {t : Ty} → Below s t t
  below_same = record { up_to = λ v b. b }

  pub below_then : {t u w : Ty} → Below s t u → Below s u w → Below s t w
  below_then p q = record { up_to = λ v b. q.up_to v (p.up_to v b) }

  -- ---- environments

  extend_at : {t : Ty} {v : Value} {g : Option Ty} {r : Option Value} (b : Bool) → Ok s t v → All? (λ t. Any? (Ok s t) r) g
      → All? (λ t. Any? (Ok s t) (if b then some v else r)) (if b then some t else g)
  extend_at true p h = all_some (any_some p)
  extend_at false p h = h

  pub extend_ok : {Γ : Env Ty} {ρ : Env Value} (i : ℕ) {t : Ty} {v : Value} → EnvOk s Γ ρ → Ok s t v → EnvOk s (extend Γ i t) (extend ρ i v)
  unfolding extend
  extend_ok i h p = record { vars = λ j. extend_at (eqb j i) p (h.vars j) }

  -- ---- values by type: what a value of a type is, and so what an operand of it may be handed

  pub ok_up : {t u : Ty} {v : Value} → Below s t u → Ok s t v → Ok s u v
  ok_up {v} h p = record { bel = h.up_to v p.bel; fits = p.fits }

  pub is_bool : {t : Ty} (v : Value) → Below s t Boolean → Ok s t v → IsBool v
  unfolding Belongs IsBool number_type simple_subtype climbs height up same_simple simple_code is_a
  is_bool v h p = go v (ok_up h p).bel
    where
      go : (v : Value) → Belongs s Boolean v → IsBool v
      go (bool b) h = tt
      go (num (int z)) h = h
      go (num (real r)) h = h
      go (obj o) h = obj_not_boolean s.parent (s.class_of o) h
      go (coll k vs) h = h

  pub bool_sem : {P : Value → Type 0} {k : ℕ} {f : Bool → ℕ → Outcome} {t : Ty} (v : Value) → Below s t Boolean → Ok s t v → ((b : Bool) → Safe P k (f b)) → Safe P k (λ n. on_bool v (λ b. f b n))
  bool_sem v h p g = safe_bool v (is_bool v h p) g

  pub int_of : {t : Ty} (v : Value) → Below s t Integer → Ok s t v → IsInt v
  unfolding Belongs number_type simple_subtype climbs height up same_simple simple_code is_a
  int_of v h p = go v (ok_up h p).bel
    where
      go : (v : Value) → Belongs s Integer v → IsInt v
      go (bool b) h = absurd h
      go (num (int z)) h = is_int_lem
      go (num (real r)) h = absurd h
      go (obj o) h = absurd (obj_not_integer s.parent (s.class_of o) h)
      go (coll k vs) h = absurd h

  pub num_of_lem : {t : Ty} (v : Value) → Below s t Real → Ok s t v → IsNum v
  unfolding Belongs simple_subtype climbs height up same_simple simple_code is_a
  num_of_lem v h p = go v (ok_up h p).bel
    where
      go : (v : Value) → Belongs s Real v → IsNum v
      go (bool b) h = absurd h
      go (num x) h = is_num_lem
      go (obj o) h = absurd (obj_not_real s.parent (s.class_of o) h)
      go (coll k vs) h = absurd h

  pub obj_sem : {P : Value → Type 0} {k c : ℕ} {f : ℕ → ℕ → Outcome} (v : Value) → Ok s (Class c) v → ((o : ℕ) → T (is_a s o (class c)) → Safe P k (f o)) → Safe P k (λ n. on_obj v (λ o. f o n))
  unfolding Belongs
  obj_sem {c} (bool b) h g = absurd (boolean_not_class s.parent c h.bel)
  obj_sem {c} (num x) h g = absurd (number_not_class s.parent x c h.bel)
  obj_sem (obj o) h g = g o h.bel
  obj_sem (coll d vs) h g = absurd h.bel

  members_ok : (t : Ty) (vs : Values) → sizes vs ≤ 128 → Every (Belongs s t) vs → Every (Ok s t) vs
  unfolding size
  members_ok t nil l h = every_nil
  members_ok t (cons v vs) l (every_cons p h) = every_cons (record { bel = p; fits = omega arith }) (members_ok t vs (omega arith) h)

  pub coll_of : {l : Letter} {t : Ty} (v : Value) → Ok s (around l t) v → IsColl s l t v
  unfolding Belongs size
  coll_of (bool b) h = absurd h.bel
  coll_of (num x) h = absurd h.bel
  coll_of (obj o) h = absurd h.bel
  coll_of {t = t} (coll k vs) h =
      let z : sizes vs ≤ 127 = omega (arith, h.fits) in
      is_coll_lem h.bel.0 (members_ok t vs (omega arith) h.bel.1) (omega (arith, count_sizes vs))

  pub coll_sem : {P : Value → Type 0} {n : ℕ} {f : Kind → Values → ℕ → Outcome} {l : Letter} {t : Ty} {v : Value} → IsColl s l t v
      → ((k : Kind) (vs : Values) → T (letter_subtype (exactly k) l) → Every (Ok s t) vs → count vs ≤ 127 → Safe P n (f k vs)) → Safe P n (λ n. on_coll v (λ k vs. f k vs n))
  coll_sem (is_coll_lem {k} {vs} p h z) g = g k vs p h z

  pub coll_fits : {l : Letter} {t : Ty} {v : Value} → IsColl s l t v → T (is_coll v)
  coll_fits (is_coll_lem p h z) = tt

  pub bool_ok : (b : Bool) → Ok s Boolean (bool b)
  unfolding Belongs size simple_subtype climbs height same_simple simple_code
  bool_ok b = record { bel = tt; fits = omega arith }

  pub num_ok : (x : Number) → Ok s (simple (number_type x)) (num x)
  unfolding Belongs size number_type simple_subtype climbs height same_simple simple_code
  num_ok (int z) = record { bel = tt; fits = omega arith }
  num_ok (real r) = record { bel = tt; fits = omega arith }

  pub int_ok : (z : ℤ) → Ok s Integer (num (int z))
  unfolding number_type
  int_ok z = num_ok (int z)

  pub real_ok : (x : Number) → Ok s Real (num x)
  unfolding Belongs size number_type simple_subtype climbs height up same_simple simple_code
  real_ok (int z) = record { bel = tt; fits = omega arith }
  real_ok (real r) = record { bel = tt; fits = omega arith }

  pub give_bool : {k : ℕ} (b : Bool) → Safe (Ok s Boolean) k (λ n. value (bool b) n)
  give_bool b = safe_value (bool b) (bool_ok b)

  pub give_num : {k : ℕ} (x : Number) → Safe (Ok s (simple (number_type x))) k (λ n. value (num x) n)
  give_num x = safe_value (num x) (num_ok x)

  pub give_int : {k : ℕ} (z : ℤ) → Safe (Ok s Integer) k (λ n. value (num (int z)) n)
  give_int z = safe_value (num (int z)) (int_ok z)

  pub given_sem : {t : Ty} {k : ℕ} {o : Option Value} → All? (Ok s t) o → Safe (Ok s t) k (λ n. given o n)
  given_sem all_none = safe_undefined
  given_sem (all_some {x} h) = safe_value x h

  pub result_sem : {t : Ty} {k : ℕ} {r : Result} → Results (Ok s t) r → Safe (Ok s t) k (λ n. resulting r n)
  result_sem (results {x} h) = safe_value (num x) h
  result_sem no_result_lem = safe_undefined
  result_sem over_range_lem = safe_over

  pub form_sem : {k : ℕ} {t : Ty} {l : Letter} (j : Kind) (vs : Values) → T (letter_subtype (exactly j) l) → Every (Belongs s t) vs → Safe (Ok s (around l t)) k (form (coll j vs))
  unfolding Belongs
  form_sem j vs h a = safe_form (coll j vs) (λ z. record { bel = (h, a); fits = z })

  pub bels : {t u : Ty} {vs : Values} → Below s t u → Every (Ok s t) vs → Every (Belongs s u) vs
  bels p h = every_imp (λ v o. (ok_up p o).bel) h
