-- A typed node of `including`, `union` or `collect` is of a type `Q(..)` exactly where its first operand is. Assumes nothing.
use mathlib.Core.Path.{◌≡◌, refl}
use mathlib.Core.Option.{Option, none, some}
use Prim.Native.Nat.{ℕ}
use lib.Dec.{T}
use Rattle.laws.proofs.Tests.{all_imp, all_self}
use Rattle.ocl.specs.Types.{any, boolean, integer, real, class, set, sequence, bag, Letter, collection, exactly, Ty, void, simple, around, same_kind, kind_code, join}
use Rattle.ocl.specs.Model.{Schema, row_read}
use Rattle.ocl.specs.Forms.{of_members, Binary, equal, less, arith, divide, over, includes, including, union}
use Rattle.ocl.specs.Marks.{of_rows}
use Rattle.ocl.specs.Typing.{common, wrap, on_collection, on_class, including_type, union_type, binary_type, row_type, collect_kind, attribute_type}
use Rattle.ocl.specs.Profile.{is_q, is_sequence, joins}
use Rattle.ocl.specs.OwnType.{OwnTypeLaw}
use Rattle.ocl.proofs.Means.{Gives, no_type, gives_type, gives_if, gives_common, gives_wrap, gives_collection, gives_kind}

-- the type is of this letter, as far as Q goes
abbrev Like : Letter → Ty → Type 0
Like l w = is_sequence w ≡ is_q l

wrapped : (l k : Letter) (p : ℕ) (t : Ty) → is_q k ≡ is_q l → Gives (Like l) (wrap p k t)
unfolding is_sequence on_collection
wrapped l k p t e = gives_wrap p k t e

commonly : (l k : Letter) (p : ℕ) (o : Option Ty) → is_q k ≡ is_q l → Gives (Like l) (common p o (wrap p k))
commonly l k p o e = gives_common {P = λ x. Unit} p (all_imp (λ x q. tt) (all_self o)) (λ w q. wrapped l k p w e)

module _ (s : Schema) (p : ℕ) where
  included : (l : Letter) (m u : Ty) → Gives (Like l) (including_type s p (around l m) u)
  unfolding including_type on_collection
  included l m u = gives_kind (λ k. is_q k ≡ is_q l) p l refl (λ k e. commonly l (exactly k) p (join s.parent m u) e)

  united : (l : Letter) (m u : Ty) → Gives (Like l) (union_type s p (around l m) u)
  unfolding union_type on_collection
  united l m u =
      gives_kind (λ k. is_q k ≡ is_q l) p l refl (λ j e. gives_collection (λ x. Unit) p u tt (λ r n x. gives_kind (λ k. Unit) p r tt (λ k y.
      gives_if (same_kind j k) (λ t. commonly l (exactly j) p (join s.parent m n) e) no_type)))

  joined : (op : Binary) → T (joins op) → (t u : Ty) → Gives (λ w. is_sequence w ≡ is_sequence t) (binary_type s p op t u).answer
  unfolding joins binary_type is_sequence on_collection
  joined equal h t u = absurd h
  joined less h t u = absurd h
  joined (arith o) h t u = absurd h
  joined (divide o) h t u = absurd h
  joined over h t u = absurd h
  joined includes h t u = absurd h
  joined including h void u = unfold including_type in no_type
  joined including h (simple b) u = unfold including_type in no_type
  joined including h (around l m) u = included l m u
  joined union h void u = unfold union_type in no_type
  joined union h (simple b) u = unfold union_type in no_type
  joined union h (around l m) u = united l m u

  -- a Sequence of values for a Sequence of objects, and a Bag for all else
  same_letter : (l : Letter) → is_q (exactly (collect_kind l)) ≡ is_q l
  unfolding is_q collect_kind same_kind kind_code
  same_letter collection = refl
  same_letter (exactly set) = refl
  same_letter (exactly sequence) = refl
  same_letter (exactly bag) = refl

  of_row_lem : (l : Letter) (name : ℕ) (m : Ty) → Gives (Like l) (attribute_type s p of_members name (around l m)).answer
  unfolding attribute_type on_collection on_class row_type
  of_row_lem l name void = no_type
  of_row_lem l name (simple any) = no_type
  of_row_lem l name (simple boolean) = no_type
  of_row_lem l name (simple integer) = no_type
  of_row_lem l name (simple real) = no_type
  of_row_lem l name (simple (class c)) = by (row_read s c name)
    where
      by : (o : Option ℕ) → Gives (Like l) (row_type s p (of_rows (collect_kind l)) (wrap p (exactly (collect_kind l))) o).answer
      by none = no_type
      by (some i) = wrapped l (exactly (collect_kind l)) p (s.row i).type (same_letter l)
  of_row_lem l name (around k t) = no_type

  collected : (name : ℕ) (t : Ty) → Gives (λ w. is_sequence w ≡ is_sequence t) (attribute_type s p of_members name t).answer
  unfolding is_sequence on_collection
  collected name void = unfold attribute_type in no_type
  collected name (simple b) = unfold attribute_type in no_type
  collected name (around l m) = of_row_lem l name m

pub own_type : OwnTypeLaw
own_type s p t = record {
  of_joining = λ op h u w e. gives_type (joined s p op h t u) e;
  of_collect = λ name w e. gives_type (collected s p name t) e;
}
