-- Laws of a type's parts. Assumes nothing.
use mathlib.Core.Path.{◌≡◌, refl, sym, ap, ◌∙◌}
use mathlib.Core.Bool.{true, false}
use mathlib.Core.Option.{none, some, none-ne-some, some-injective}
use Prim.Native.Nat.{ℕ, zero, suc, ◌≤◌, ◌<◌}
use native.Mathlib.Omega.{arith}
use Rattle.ocl.specs.Types.{any, boolean, integer, real, class, set, sequence, bag, Letter, collection, exactly, Ty, void, simple, around, Class, depth}
use Rattle.ocl.specs.Typing.{on_collection}
use Rattle.types.specs.declared.Base.{Base}
use Rattle.types.specs.declared.Base.TheVariants as b
use Rattle.types.specs.declared.FlatType.{FlatType}
use Rattle.types.specs.Flat.{base_type, letter_of, layer, ty_of, under, bare}
use Rattle.types.specs.Parts.{code_of, outer_code, member_type, simple_class, class_of, is_any}
use Rattle.types.proofs.Cases.{by_base, other_letter}
use Rattle.types.proofs.Levels.{layer_on}

-- ---- what the codes say

pub ends : (t : FlatType) → t.outer ≡ 0 → ty_of t ≡ base_type t.base
unfolding layer
ends t e = rw e

pub goes_on : (t : FlatType) → (t.outer ≡ 0 → ⊥) → ty_of t ≡ around (letter_of t.outer) (ty_of (under t))
unfolding layer
goes_on t h = layer_on t.outer _ _ h

pub bare_type : (b : Base) (t : FlatType) → t ≡ bare b → ty_of t ≡ base_type b
unfolding layer
bare_type b t e = rw e

-- ---- depth

pub base_depth : (a : Base) → depth (base_type a) ≡ 0
unfolding depth
base_depth = by_base (λ t. depth t ≡ 0) refl (λ s. refl)

pub depth_ends : (t : FlatType) → t.outer ≡ 0 → depth (ty_of t) ≡ 0
depth_ends t e = ap depth (ends t e) ∙ base_depth t.base

pub depth_on : (t : FlatType) → (t.outer ≡ 0 → ⊥) → depth (ty_of t) ≡ suc (depth (ty_of (under t)))
unfolding depth
depth_on t h = ap depth (goes_on t h)

pub depth_one : (t : FlatType) → (t.outer ≡ 0 → ⊥) → t.middle ≡ 0 → depth (ty_of t) ≡ 1
depth_one t h e = depth_on t h ∙ ap suc (depth_ends (under t) e)

pub depth_two : (t : FlatType) → (t.outer ≡ 0 → ⊥) → (t.middle ≡ 0 → ⊥) → t.inner ≡ 0 → depth (ty_of t) ≡ 2
depth_two t h k e = depth_on t h ∙ ap suc (depth_one (under t) k e)

pub depth_three : (t : FlatType) → (t.outer ≡ 0 → ⊥) → (t.middle ≡ 0 → ⊥) → (t.inner ≡ 0 → ⊥) → depth (ty_of t) ≡ 3
depth_three t h k m = depth_on t h ∙ ap suc (depth_two (under t) k m refl)

depth_by : (o m i : ℕ) (x : Ty) → depth x ≡ 0 → depth (layer o x (layer m x (layer i x x))) ≤ 3
unfolding layer depth
depth_by zero m i x e = omega arith
depth_by (suc o) zero i x e = omega arith
depth_by (suc o) (suc m) zero x e = omega arith
depth_by (suc o) (suc m) (suc i) x e = omega arith

pub depth_le : (t : FlatType) → depth (ty_of t) ≤ 3
depth_le t = depth_by t.outer t.middle t.inner (base_type t.base) (base_depth t.base)

-- ---- letters

base_code : (a : Base) → outer_code (base_type a) ≡ 0
unfolding outer_code
base_code = by_base (λ t. outer_code t ≡ 0) refl (λ s. refl)

code_low : (a : Base) (u : Ty) (k : ℕ) → k ≤ 4 → k ≡ outer_code (layer k (base_type a) u)
unfolding outer_code code_of layer letter_of
code_low a u zero h = sym (base_code a)
code_low a u (suc zero) h = refl
code_low a u (suc (suc zero)) h = refl
code_low a u (suc (suc (suc zero))) h = refl
code_low a u (suc (suc (suc (suc zero)))) h = refl
code_low a u (suc (suc (suc (suc (suc k))))) h = absurd (omega arith)

code_high : (a : Base) (u : Ty) (k : ℕ) → 4 < k → 1 ≡ outer_code (layer k (base_type a) u)
unfolding outer_code code_of
code_high a u k h =
    sym (ap outer_code (layer_on k (base_type a) u (λ e. omega arith)) ∙ ap code_of (other_letter k (λ e. omega arith) (λ e. omega arith) (λ e. omega arith)))

pub outer_low : (t : FlatType) → t.outer ≤ 4 → t.outer ≡ outer_code (ty_of t)
outer_low t h = code_low t.base _ t.outer h

pub outer_high : (t : FlatType) → 4 < t.outer → 1 ≡ outer_code (ty_of t)
outer_high t h = code_high t.base _ t.outer h

-- a letter's code says the letter
letter_code : (l : Letter) → letter_of (code_of l) ≡ l
unfolding letter_of code_of
letter_code collection = refl
letter_code (exactly set) = refl
letter_code (exactly sequence) = refl
letter_code (exactly bag) = refl

code_some : (l : Letter) → code_of l ≡ 0 → ⊥
unfolding code_of
code_some collection e = omega arith
code_some (exactly set) e = omega arith
code_some (exactly sequence) e = omega arith
code_some (exactly bag) e = omega arith

-- ---- collections, as typing asks for them

pub no_collection : {A : Type 0} (other : A) (k : Letter → Ty → A) (t : Ty) → outer_code t ≡ 0 → on_collection t other k ≡ other
unfolding on_collection outer_code
no_collection other k void e = refl
no_collection other k (simple a) e = refl
no_collection other k (around l t) e = absurd (code_some l e)

pub is_collection : {A : Type 0} (other : A) (k : Letter → Ty → A) (t : Ty) → (outer_code t ≡ 0 → ⊥) → on_collection t other k ≡ k (letter_of (outer_code t)) (member_type t)
unfolding on_collection outer_code member_type
is_collection other k void h = absurd (h refl)
is_collection other k (simple a) h = absurd (h refl)
is_collection other k (around l t) h = ap (λ (m : Letter). k m t) (sym (letter_code l))

base_member : (a : Base) → base_type a ≡ member_type (base_type a)
unfolding member_type
base_member = by_base (λ t. t ≡ member_type t) refl (λ s. refl)

pub member_ends : (t : FlatType) → t.outer ≡ 0 → ty_of t ≡ member_type (ty_of t)
member_ends t e = ends t e ∙ base_member t.base ∙ ap member_type (sym (ends t e))

pub member_on : (t r : FlatType) → (t.outer ≡ 0 → ⊥) → r ≡ under t → ty_of r ≡ member_type (ty_of t)
unfolding member_type
member_on t r h e = ap ty_of e ∙ sym (ap member_type (goes_on t h))

-- a type at most two deep says nothing by its third code
shallow : (o m i : ℕ) (x : Ty) → depth (layer o x (layer m x (layer i x x))) ≤ 2 → layer o x (layer m x x) ≡ layer o x (layer m x (layer i x x))
unfolding layer depth
shallow zero m i x h = refl
shallow (suc o) zero i x h = refl
shallow (suc o) (suc m) zero x h = refl
shallow (suc o) (suc m) (suc i) x h = absurd (omega arith)

pub wrap_law : (k : ℕ) (t : FlatType) → 0 < k → depth (ty_of t) ≤ 2 → ty_of (record { base = t.base; outer = k; middle = t.outer; inner = t.middle }) ≡ around (letter_of k) (ty_of t)
wrap_law k t h d = layer_on k _ _ (λ e. omega arith) ∙ ap (around (letter_of k)) (shallow t.outer t.middle t.inner (base_type t.base) d)

-- ---- classes and Any

pub class_is : (t : Ty) (c : ℕ) → some c ≡ class_of t → t ≡ Class c
unfolding class_of simple_class
class_is void c h = absurd (none-ne-some _ (sym h))
class_is (simple any) c h = absurd (none-ne-some _ (sym h))
class_is (simple boolean) c h = absurd (none-ne-some _ (sym h))
class_is (simple integer) c h = absurd (none-ne-some _ (sym h))
class_is (simple real) c h = absurd (none-ne-some _ (sym h))
class_is (simple (class d)) c h = ap Class (sym (some-injective c d h))
class_is (around l t) c h = absurd (none-ne-some _ (sym h))

pub class_on : (t : FlatType) → (t.outer ≡ 0 → ⊥) → none ≡ class_of (ty_of t)
unfolding class_of
class_on t h = sym (ap class_of (goes_on t h))

pub class_ends : (t : FlatType) (a : Base) → t.outer ≡ 0 → t.base ≡ a → class_of (base_type a) ≡ class_of (ty_of t)
class_ends t a e q = ap (λ (x : Base). class_of (base_type x)) (sym q) ∙ ap class_of (sym (ends t e))

no_class : (a : Base) → ((c : ℕ) → a ≡ b.Class c → ⊥) → none ≡ class_of (base_type a)
unfolding class_of simple_class
no_class b.Void h = refl
no_class b.Bool h = refl
no_class b.Int h = refl
no_class b.Any h = refl
no_class b.Real h = refl
no_class (b.Class c) h = absurd (h c refl)

pub class_not : (t : FlatType) → t.outer ≡ 0 → ((c : ℕ) → t.base ≡ b.Class c → ⊥) → none ≡ class_of (ty_of t)
class_not t e h = no_class t.base h ∙ ap class_of (sym (ends t e))

pub any_on : (t : FlatType) → (t.outer ≡ 0 → ⊥) → false ≡ is_any (ty_of t)
unfolding is_any
any_on t h = sym (ap is_any (goes_on t h))

pub any_ends : (t : FlatType) → t.outer ≡ 0 → t.base ≡ b.Any → true ≡ is_any (ty_of t)
unfolding is_any
any_ends t e q = sym (ap is_any (ends t e) ∙ ap (λ (x : Base). is_any (base_type x)) q)

no_any : (a : Base) → (a ≡ b.Any → ⊥) → false ≡ is_any (base_type a)
unfolding is_any
no_any b.Void h = refl
no_any b.Bool h = refl
no_any b.Int h = refl
no_any b.Any h = absurd (h refl)
no_any b.Real h = refl
no_any (b.Class c) h = refl

pub any_not : (t : FlatType) → t.outer ≡ 0 → (t.base ≡ b.Any → ⊥) → false ≡ is_any (ty_of t)
any_not t e h = no_any t.base h ∙ ap is_any (sym (ends t e))
