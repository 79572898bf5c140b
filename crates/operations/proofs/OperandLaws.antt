-- What follows the one operand of a form, by the form's code. Assumes nothing.
use mathlib.Core.Path.{◌≡◌}
use mathlib.Core.Bool.{true, false}
use mathlib.Core.List.{List}
use Prim.Native.Nat.{ℕ, ◌<◌, ◌≤◌}
use borrow.Author.Tests.{lt-ltb, le-ltb, ne_eqb}
use Rattle.ocl.specs.Values.{bool}
use Rattle.ocl.specs.Forms.{of_object, of_members}
use Rattle.ocl.specs.Operations.{unary_apply}
use Rattle.values.specs.Cells.{fits_bool}
use Rattle.values.specs.Meanings.{means_bool}
use Rattle.values.specs.declared.Simple.TheVariants as simple
use Rattle.nodes.specs.Nodes.{unary_of, access_of}
use Rattle.tables.specs.declared.Counts.{Counts}
use Rattle.tables.specs.Stored.{HoldsModel}
use Rattle.outcomes.specs.declared.Ended.{Ended}
use Rattle.outcomes.specs.declared.Ended.TheVariants as ended
use Rattle.outcomes.specs.Answers.{Gives}
use Rattle.outcomes.specs.Tables.{Accesses}
use Rattle.operations.specs.Operations.{OfOne, unary_for}
use Rattle.operations.specs.Operand.{of_value, of_undefined, FromValue, FromUndefined}
use Rattle.operations.proofs.OperationLaws.{ran_undefined}

unary_same : (words : ℕ → ℕ) (k c : ℕ) → c ≡ words 2 → unary_for k c ≡ unary_of k words
unfolding unary_for unary_of
unary_same words k c e = rw e

module _ (k : ℕ) {sp s : ℕ} {B : List ℕ} where
  module _ {st : Counts} {w0 : List ℕ} (words : ℕ → ℕ) (mark : ℕ) {len : ℕ} {A : List ℕ} {r : Ended} where
    pub value_unary : (c : ℕ) → k < 13 → c ≡ words 2 → OfOne (HoldsModel st w0) (λ m. unary_apply m (unary_for k c)) sp len s B A r → FromValue st w0 k words mark sp len s B A r
    unfolding of_value
    value_unary c h e y = record { small = y.small; ran = λ m H P x X v l. rw (lt-ltb k 13 h, ← unary_same words k c e) (y.ran m H v l) }

    pub value_is_undef : k ≡ 30 → Gives (simple.Bool false) sp s B A r → FromValue st w0 k words mark sp len s B A r
    unfolding of_value
    value_is_undef e G = record { small = G.small; ran = λ m H P x X v l. rw e (G.is (bool false) fits_bool means_bool) }

    pub value_attribute : k ≡ 33 → ((n : ℕ) → Accesses of_object st w0 mark sp n s B A r) → FromValue st w0 k words mark sp len s B A r
    unfolding of_value access_of
    value_attribute e y = record { small = (y len).small; ran = λ m H P x X v l. rw e ((y len).ran m H P x X v l) }

    pub value_collect : 13 ≤ k → (k ≡ 30 → ⊥) → (k ≡ 33 → ⊥) → Accesses of_members st w0 mark sp len s B A r → FromValue st w0 k words mark sp len s B A r
    unfolding of_value access_of
    value_collect h e f y = record { small = y.small; ran = λ m H P x X v l. rw (le-ltb k 13 h, ne_eqb k 30 e, ne_eqb k 33 f) (y.ran m H P x X v l) }

  pub undefined_known : {A : List ℕ} {r : Ended} → k ≡ 30 → Gives (simple.Bool true) sp s B A r → FromUndefined k sp s B A r
  unfolding of_undefined
  undefined_known e G = record { small = G.small; ran = rw e (G.is (bool true) fits_bool means_bool) }

  pub undefined_still : (k ≡ 30 → ⊥) → FromUndefined k sp s B B (ended.Undef s)
  unfolding of_undefined
  undefined_still e = record { small = tt; ran = rw (ne_eqb k 30 e) ran_undefined }
