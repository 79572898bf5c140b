-- What a caller learns of a field that should spell a type: that it spells none, one over the limits, or one within them, which
-- names a class below 64. Assumes nothing.
use mathlib.Core.Path.{◌≡◌, refl, sym, ap, ◌∙◌}
use mathlib.Core.Bool.{Bool, true, false}
use mathlib.Core.Option.{Option, none, some}
use Prim.Native.Nat.{ℕ, zero, suc, ◌<◌}
use native.Mathlib.Omega.{arith}
use borrow.Author.Tests.{ltb-true}
use lib.Dec.{leb}
use Rattle.std.specs.Prelude.{if◌then◌else◌, Result, Ok, Err}
use Rattle.laws.proofs.Tests.{and-true}
use Rattle.ocl.specs.Types.{Ty, depth}
use Rattle.sheet.specs.Limits.{type_within, class_below, simple_class_below}
use Rattle.types.specs.declared.Base.{Base}
use Rattle.types.specs.declared.Base.TheVariants as b
use Rattle.types.specs.declared.FlatType.{FlatType}
use Rattle.types.specs.Flat.{base_type, base_class, layer, ty_of}
use Rattle.types.specs.Reading.{bad, big, is, type_field, held}
use Rattle.memory.specs.declared.refusals.Misread.{Misread}
use Rattle.memory.specs.declared.refusals.Misread.TheVariants.{Malformed, OverLimit}

-- ---- by the answer

held_bad : (o : Option Ty) → bad ≡ held o → o ≡ none
unfolding held
held_bad none h = refl
held_bad (some t) h = go (type_within t) h
  where
    go : (b : Bool) → bad ≡ (if b then is t else big) → some t ≡ none
    go true h = absurd (let z : ◌≡◌ {A = ℕ} 0 1 = cc in omega arith)
    go false h = absurd (let z : ◌≡◌ {A = ℕ} 0 1 = cc in omega arith)

held_big : (o : Option Ty) → big ≡ held o → (t : Ty) × (o ≡ some t) × (type_within t ≡ false)
unfolding held
held_big none h = absurd (let z : ◌≡◌ {A = ℕ} 0 1 = cc in omega arith)
held_big (some t) h = (t, refl, go (type_within t) h)
  where
    go : (b : Bool) → big ≡ (if b then is t else big) → b ≡ false
    go true h = absurd (let z : ◌≡◌ {A = ℕ} 0 1 = cc in omega arith)
    go false h = refl

held_is : (o : Option Ty) (t : Ty) → is t ≡ held o → (o ≡ some t) × (type_within t ≡ true)
unfolding held
held_is none t h = absurd (let z : ◌≡◌ {A = ℕ} 0 1 = cc in omega arith)
held_is (some u) t h = go (type_within u) refl h
  where
    go : (b : Bool) → b ≡ type_within u → is t ≡ (if b then is u else big) → (some u ≡ some t) × (type_within t ≡ true)
    go true e h = let z : t ≡ u = cc in (ap some (sym z), rw z (sym e))
    go false e h = absurd (let z : ◌≡◌ {A = ℕ} 0 1 = cc in omega arith)

module _ {r : Result FlatType Misread} (o : Option Ty) (read : type_field r ≡ held o) where
  pub read_bad : r ≡ Err Malformed → o ≡ none
  unfolding type_field
  read_bad e = held_bad o (rw e at read)

  pub read_big : r ≡ Err OverLimit → (t : Ty) × (o ≡ some t) × (type_within t ≡ false)
  unfolding type_field
  read_big e = held_big o (rw e at read)

  pub read_is : (t : FlatType) → r ≡ Ok t → (o ≡ some (ty_of t)) × (type_within (ty_of t) ≡ true)
  unfolding type_field
  read_is t e = held_is o (ty_of t) (rw e at read)

-- ---- the class in a type

layer_class : (n k : ℕ) (base under : Ty) → class_below n under ≡ class_below n base → class_below n (layer k base under) ≡ class_below n base
unfolding layer class_below
layer_class n zero base under h = refl
layer_class n (suc k) base under h = h

-- the letters do not matter
pub type_class : (n : ℕ) (t : FlatType) → class_below n (ty_of t) ≡ class_below n (base_type t.base)
type_class n t = layer_class n t.outer _ _ (layer_class n t.middle _ _ (layer_class n t.inner _ _ refl))

base_class_lem : (a : Base) → class_below 64 (base_type a) ≡ true → base_class a < 64
unfolding class_below simple_class_below
base_class_lem b.Void h = omega arith
base_class_lem b.Bool h = omega arith
base_class_lem b.Int h = omega arith
base_class_lem b.Any h = omega arith
base_class_lem b.Real h = omega arith
base_class_lem (b.Class c) h = ltb-true c 64 h

pub within_class : (t : FlatType) → type_within (ty_of t) ≡ true → base_class t.base < 64
unfolding type_within
within_class t h = base_class_lem t.base (sym (type_class 64 t) ∙ (and-true (leb (depth (ty_of t)) 3) (class_below 64 (ty_of t)) h).1)
