-- What an answer of typing says where it is a type, with the marks made on the way: a law for each piece that typing is written in.
-- Assumes nothing.
use mathlib.Core.Path.{◌≡◌, refl, subst}
use mathlib.Core.Bool.{Bool, true, false}
use mathlib.Core.Option.{Option}
use Prim.Native.Nat.{ℕ}
use native.Mathlib.Omega.{arith as linear}
use lib.Dec.{T, leb}
use Rattle.std.specs.Prelude.{if◌then◌else◌}
use Rattle.laws.proofs.Tests.{All?, all_none, all_some}
use Rattle.ocl.specs.Types.{any, boolean, integer, real, class, Kind, Letter, collection, exactly, Ty, void, simple, around, Class, depth, subtype}
use Rattle.ocl.specs.Model.{Schema}
use Rattle.ocl.specs.Forms.{Definition}
use Rattle.ocl.specs.Marks.{Mark, Marks}
use Rattle.ocl.specs.Typing.{Answer, typed, refused, Typed, pure, then_for, and_then, below, common, wrap, on_collection, on_class, on_kind, type_rule, root, type_definition}
use Rattle.ocl.specs.Laws.{Agree}
use Rattle.ocl.proofs.Marks.{marks_left, marks_right}

-- G of an answer's type
pub data Gives (G : Ty → Type 0) : Answer → Type 0 where
  no_type : {n p : ℕ} → Gives G (refused n p)
  gives : {t : Ty} → G t → Gives G (typed t)

pub record Means (mark : ℕ → Mark) (G : Ty → Type 0) (x : Typed) : Type 0 where
  pub means : (t : Ty) → x.answer ≡ typed t → Agree mark x.marks → G t

pub gives_type : {G : Ty → Type 0} {a : Answer} {t : Ty} → Gives G a → a ≡ typed t → G t
gives_type {G} {t = w} (gives {t = u} g) e = let f : u ≡ w = cc in subst G f g
gives_type no_type e = absurd (let z : ◌≡◌ {A = ℕ} 0 1 = cc in omega linear)

pub means_pure : {mark : ℕ → Mark} {G : Ty → Type 0} {a : Answer} → Gives G a → Means mark G (pure a)
means_pure h = record { means = λ t e g. gives_type h e }

then_means : {mark : ℕ → Mark} {F G : Ty → Type 0} {k : Ty → Typed} {m : Marks} (a : Answer) → ((t : Ty) → a ≡ typed t → Agree mark m → F t) → ((t : Ty) → F t → Means mark G (k t)) → Means mark G (then_for a m k)
unfolding then_for
then_means {m} (typed t) h g = record { means = λ u e z. (g t (h t refl (marks_left m _ z))).means u e (marks_right m z) }
then_means (refused n p) h g = record { means = λ u e z. absurd (let y : ◌≡◌ {A = ℕ} 0 1 = cc in omega linear) }

pub means_then : {mark : ℕ → Mark} {F G : Ty → Type 0} {x : Typed} {k : Ty → Typed} → Means mark F x → ((t : Ty) → F t → Means mark G (k t)) → Means mark G (and_then x k)
unfolding and_then
means_then {x} h g = then_means x.answer h.means g

pub means_imp : {mark : ℕ → Mark} {F G : Ty → Type 0} {x : Typed} → ((t : Ty) → F t → G t) → Means mark F x → Means mark G x
means_imp f h = record { means = λ t e g. f t (h.means t e g) }

pub gives_if : {G : Ty → Type 0} {x y : Answer} (b : Bool) → (T b → Gives G x) → Gives G y → Gives G (if b then x else y)
gives_if true g h = g tt
gives_if false g h = h

pub gives_common : {G P : Ty → Type 0} {k : Ty → Answer} {o : Option Ty} (p : ℕ) → All? P o → ((w : Ty) → P w → Gives G (k w)) → Gives G (common p o k)
unfolding common
gives_common p all_none g = no_type
gives_common p (all_some {x} h) g = g x h

pub gives_wrap : {G : Ty → Type 0} (p : ℕ) (l : Letter) (t : Ty) → G (around l t) → Gives G (wrap p l t)
unfolding wrap
gives_wrap p l t g = gives_if (leb (depth t) 2) (λ h. gives g) no_type

pub gives_collection : (H : Ty → Type 0) {G : Ty → Type 0} {k : Letter → Ty → Answer} (p : ℕ) (t : Ty) → H t → ((l : Letter) (m : Ty) → H (around l m) → Gives G (k l m)) → Gives G (on_collection t (refused 11 p) k)
unfolding on_collection
gives_collection H p void h g = no_type
gives_collection H p (simple b) h g = no_type
gives_collection H p (around l m) h g = g l m h

pub means_collection : {mark : ℕ → Mark} (H : Ty → Type 0) {G : Ty → Type 0} {k : Letter → Ty → Typed} (p : ℕ) (t : Ty) → H t → ((l : Letter) (m : Ty) → H (around l m) → Means mark G (k l m)) → Means mark G (on_collection t (pure (refused 11 p)) k)
unfolding on_collection
means_collection H p void h g = means_pure no_type
means_collection H p (simple b) h g = means_pure no_type
means_collection H p (around l m) h g = g l m h

pub means_class : {mark : ℕ → Mark} (H : Ty → Type 0) {G : Ty → Type 0} {k : ℕ → Typed} (p : ℕ) (t : Ty) → H t → ((c : ℕ) → H (Class c) → Means mark G (k c)) → Means mark G (on_class t (pure (refused 11 p)) k)
unfolding on_class
means_class H p void h g = means_pure no_type
means_class H p (simple any) h g = means_pure no_type
means_class H p (simple boolean) h g = means_pure no_type
means_class H p (simple integer) h g = means_pure no_type
means_class H p (simple real) h g = means_pure no_type
means_class H p (simple (class c)) h g = g c h
means_class H p (around l m) h g = means_pure no_type

pub means_if : {mark : ℕ → Mark} {G : Ty → Type 0} {x y : Typed} (b : Bool) → (T b → Means mark G x) → Means mark G y → Means mark G (if b then x else y)
means_if true g h = g tt
means_if false g h = h

pub gives_class : (H : Ty → Type 0) {G : Ty → Type 0} {k : ℕ → Answer} (p : ℕ) (t : Ty) → H t → ((c : ℕ) → H (Class c) → Gives G (k c)) → Gives G (on_class t (refused 11 p) k)
unfolding on_class
gives_class H p void h g = no_type
gives_class H p (simple any) h g = no_type
gives_class H p (simple boolean) h g = no_type
gives_class H p (simple integer) h g = no_type
gives_class H p (simple real) h g = no_type
gives_class H p (simple (class c)) h g = g c h
gives_class H p (around l m) h g = no_type

pub gives_kind : (H : Letter → Type 0) {G : Ty → Type 0} {k : Kind → Answer} (p : ℕ) (l : Letter) → H l → ((c : Kind) → H (exactly c) → Gives G (k c)) → Gives G (on_kind l (refused 11 p) k)
unfolding on_kind
gives_kind H p collection h g = no_type
gives_kind H p (exactly c) h g = g c h

-- a definition that is typed has its own type
pub definition_type : (s : Schema) (d : Definition) (t : Ty) → (type_definition s d).answer ≡ typed t → t ≡ d.type
unfolding type_definition and_then then_for
definition_type s d t e = go (type_rule s d.context d.body).answer (type_rule s d.context d.body).marks e
  where
    go : (a : Answer) (m : Marks) → (then_for a m (λ u. pure (below s (root d.body) u d.type (typed d.type)))).answer ≡ typed t → t ≡ d.type
    go (typed u) m e = gives_type {G = λ w. w ≡ d.type} (gives_if (subtype s.parent u d.type) (λ h. gives refl) no_type) e
    go (refused n p) m e = absurd (let z : ◌≡◌ {A = ℕ} 0 1 = cc in omega linear)
