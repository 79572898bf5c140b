-- Types by variable: one replaced is a binding, and a rule's start binds `self` alone. Assumes nothing.
use mathlib.Core.Path.{◌≡◌, refl, ap, ◌∙◌, fun_ext}
use mathlib.Core.Bool.{Bool, true, false}
use mathlib.Core.Option.{Option, none, some}
use mathlib.Core.List.{List}
use Prim.Native.Nat.{ℕ, zero, suc, ◌<◌}
use native.Mathlib.Omega.{arith}
use lib.ListN.{length, get_or, set, replicate}
use lib.Seq.{get_or-set_same, get_or-set_other}
use lib.Dec.{eqb}
use borrow.Author.Tests.{eqb-true, eqb-false}
use Rattle.std.specs.Prelude.{if◌then◌else◌}
use Rattle.ocl.specs.Types.{Ty, Class}
use Rattle.ocl.specs.Environment.{Env, extend, start}
use Rattle.ocl.specs.Typing.{typed, refused, bound_type}
use Rattle.types.specs.declared.Base.TheVariants as b
use Rattle.types.specs.declared.FlatType.{FlatType}
use Rattle.types.specs.Flat.{ty_of, bare}
use Rattle.judgements.specs.declared.TypeEnv.{TypeEnv}
use Rattle.judgements.specs.Replies.{env_of}

-- ---- a variable

module _ (n i : ℕ) (env : TypeEnv) where
  pub is_bound : get_or env.bound i false ≡ true → typed (ty_of (get_or env.types i (bare b.Void))) ≡ bound_type n (env_of env i)
  unfolding bound_type env_of
  is_bound h = rw h

  pub is_free : get_or env.bound i false ≡ false → refused 9 n ≡ bound_type n (env_of env i)
  unfolding bound_type env_of
  is_free h = rw h

-- ---- a binding

abbrev type_at : List FlatType → List Bool → ℕ → Option Ty
type_at ts bs j = if get_or bs j false then some (ty_of (get_or ts j (bare b.Void))) else none

set_by : (ts : List FlatType) (bs : List Bool) (i j : ℕ) (t : FlatType) → i < length ts → i < length bs → (x : Bool) → eqb j i ≡ x
    → type_at (set ts i t) (set bs i true) j ≡ (if x then some (ty_of t) else type_at ts bs j)
set_by ts bs i j t h k true e = rw (eqb-true j i e, get_or-set_same ts i t (bare b.Void) h, get_or-set_same bs i true false k)
set_by ts bs i j t h k false e = rw (get_or-set_other ts i j t (bare b.Void) (eqb-false j i e), get_or-set_other bs i j true false (eqb-false j i e))

pub env_set : (env : TypeEnv) (i : ℕ) (t : FlatType) → length env.types ≡ 16 → length env.bound ≡ 16 → i < 16
    → env_of (record { types = set env.types i t; bound = set env.bound i true }) ≡ extend (env_of env) i (ty_of t)
unfolding env_of extend
env_set env i t n m h = fun_ext (λ j. set_by env.types env.bound i j t (omega arith) (omega arith) (eqb j i) refl)

-- ---- the start

none_bound : (m j : ℕ) → get_or (replicate m false) j false ≡ false
none_bound zero j = refl
none_bound (suc m) zero = refl
none_bound (suc m) (suc j) = none_bound m j

-- nothing bound, but for `self`
pub start_env : {ρ : Env Ty} {t : Ty} (ts : List FlatType) (c : ℕ) → ρ ≡ extend (env_of (record { types = ts; bound = replicate 16 false })) 0 t → t ≡ Class c → ρ ≡ start (Class c)
unfolding start env_of
start_env ts c e h = e ∙ ap (extend (type_at ts (replicate 16 false)) 0) h ∙ ap (λ (σ : Env Ty). extend σ 0 (Class c)) (fun_ext (λ j. rw (none_bound 16 j)))
