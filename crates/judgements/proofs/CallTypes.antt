-- The type of `call` as the code finds it: one law for each answer. Assumes nothing.
use mathlib.Core.Path.{◌≡◌, refl, sym, ap, ◌∙◌}
use mathlib.Core.Bool.{true, false}
use mathlib.Core.Option.{none, some, none-ne-some}
use mathlib.Core.List.{List}
use Prim.Native.Nat.{ℕ}
use Rattle.std.specs.Prelude.{if◌then◌else◌, Option as Optional, Some, None}
use Rattle.ocl.specs.Types.{any, boolean, integer, real, class, Ty, void, simple, around, Parents, simple_subtype, subtype}
use Rattle.ocl.specs.Model.{Schema}
use Rattle.ocl.specs.Typing.{typed, refused, on_class, call_type}
use Rattle.types.specs.Flat.{parents_in}
use Rattle.types.specs.Parts.{simple_class, class_of, class_number}
use Rattle.types.proofs.Members.{class_is}

-- over a model whose parents the code reads; the definition has class c and type t
module _ (m : Schema) (ps : List ℕ) (e : m.parent ≡ parents_in ps) (n c : ℕ) (t : Ty) where
  call_not : (u : Ty) → none ≡ class_of u → refused 11 n ≡ call_type m n c t u
  unfolding call_type on_class class_of simple_class
  call_not void h = refl
  call_not (simple any) h = refl
  call_not (simple boolean) h = refl
  call_not (simple integer) h = refl
  call_not (simple real) h = refl
  call_not (simple (class d)) h = absurd (none-ne-some _ h)
  call_not (around l u) h = refl

  -- no class
  pub call_other : (u : Ty) (x : Optional ℕ) → class_number x ≡ class_of u → x ≡ None → refused 11 n ≡ call_type m n c t u
  unfolding class_number
  call_other u x p q = call_not u (ap class_number (sym q) ∙ p)

  call_by : (u : Ty) (d : ℕ) → some d ≡ class_of u → call_type m n c t u ≡ (if simple_subtype m.parent (class d) (class c) then typed t else refused 11 n)
  unfolding call_type on_class subtype
  call_by u d p = ap (call_type m n c t) (class_is u d p)

  module _ (u : Ty) (d : ℕ) (x : Optional ℕ) (p : class_number x ≡ class_of u) (q : x ≡ Some d) where
    call_is : call_type m n c t u ≡ (if simple_subtype (parents_in ps) (class d) (class c) then typed t else refused 11 n)
    unfolding class_number
    call_is = call_by u d (ap class_number (sym q) ∙ p) ∙ ap (λ (f : Parents). if simple_subtype f (class d) (class c) then typed t else refused 11 n) e

    pub call_in : true ≡ simple_subtype (parents_in ps) (class d) (class c) → typed t ≡ call_type m n c t u
    call_in h = sym (call_is ∙ rw (← h))

    pub call_out : false ≡ simple_subtype (parents_in ps) (class d) (class c) → refused 11 n ≡ call_type m n c t u
    call_out h = sym (call_is ∙ rw (← h))
