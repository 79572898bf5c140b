-- The forms with a single operand, by the form's code. Assumes nothing.
use mathlib.Core.Path.{◌≡◌, ap}
use mathlib.Core.List.{List}
use Prim.Native.Nat.{ℕ}
use borrow.Author.Tests.{ne_eqb}
use Rattle.ocl.specs.Types.{Ty, Boolean}
use Rattle.ocl.specs.Forms.{of_object, of_members}
use Rattle.ocl.specs.Model.{Schema}
use Rattle.ocl.specs.Typing.{typed, unary_type, attribute_type, call_type}
use Rattle.types.specs.declared.FlatType.{FlatType}
use Rattle.types.specs.Flat.{ty_of}
use Rattle.types.specs.Word.{type_in}
use Rattle.nodes.specs.Nodes.{class_in, unary_of}
use Rattle.judgements.specs.Replies.{meaning, Tells}
use Rattle.judgements.specs.Single.{single_type}
use Rattle.judgements.proofs.Composition.{done}
use Rattle.std.specs.Prelude.{Result, Ok}
use Rattle.memory.specs.declared.refusals.Refused.{Refused}

module _ (m : Schema) (n k : ℕ) (w : ℕ → ℕ) (t : Ty) where
  pub undef_single : {B : List ℕ} {x : FlatType} → k ≡ 30 → ty_of x ≡ Boolean → Tells (single_type m n k w t) B B (Ok x)
  unfolding single_type
  undef_single h e = rw h (done (ap typed e))

  pub attribute_single : {B A : List ℕ} {r : Result FlatType Refused} {name : ℕ} → k ≡ 33 → name ≡ w 2 → Tells (attribute_type m n of_object name t) B A r → Tells (single_type m n k w t) B A r
  unfolding single_type
  attribute_single h e d = rw (h, ← e) d

  pub collect_single : {B A : List ℕ} {r : Result FlatType Refused} {name : ℕ} → k ≡ 34 → name ≡ w 2 → Tells (attribute_type m n of_members name t) B A r → Tells (single_type m n k w t) B A r
  unfolding single_type
  collect_single h e d = rw (h, ← e) d

  pub call_single : {B : List ℕ} {r : Result FlatType Refused} {c d : ℕ} {u : Ty} → k ≡ 36 → c ≡ w 3 → d ≡ w 4 → u ≡ type_in d → meaning r ≡ call_type m n (class_in c) u t → Tells (single_type m n k w t) B B r
  unfolding single_type
  call_single h e f q x = rw (h, ← e, ← f, ← q) (done x)

  pub unary_single : {B : List ℕ} {r : Result FlatType Refused} → (k ≡ 30 → ⊥) → (k ≡ 33 → ⊥) → (k ≡ 34 → ⊥) → (k ≡ 36 → ⊥) → meaning r ≡ unary_type m n (unary_of k w) t → Tells (single_type m n k w t) B B r
  unfolding single_type
  unary_single a b c d e = rw (ne_eqb k 30 a, ne_eqb k 33 b, ne_eqb k 34 c, ne_eqb k 36 d) (done e)
