-- F-12, from the bytes: the new text is accepted, is in the profile as far as the first one is, and its rules in the profile give the images
-- of the values. Assumes nothing.
use mathlib.Core.Path.{◌≡◌, sym, ap, ◌∙◌, subst}
use mathlib.Core.List.{List, []}
use Prim.Native.Nat.{ℕ, ◌≤◌}
use lib.ListN.{length, get_elem?}
use Rattle.sheet.specs.Text.{Bytes}
use Rattle.sheet.specs.Calls.{answer, type_lines, evaluate_on, evaluate_call, read_call}
use Rattle.sheet.specs.Soundness.{Lent}
use Rattle.sheet.specs.Reading.{accepted, read_text}
use Rattle.sheet.specs.Profile.{first_outside, on_profile, profile_call}
use Rattle.sheet.specs.ProfileLaws.{outside_on, nodes_outside}
use Rattle.sheet.proofs.Acceptance.{accepted_good}
use Rattle.sheet.proofs.Accepted.{AcceptedSheet, accepted_of, on_accepted_lem}
use Rattle.sheet.proofs.Soundness.{sheet_is, read_lent, profile_lent, evaluate_lent}
use Rattle.profile.specs.Renumbering.{Permutation}
use Rattle.profile.specs.FreeNumbering.{FreeNumbering, FreeNumberingLaw, NoStop, SameValue, Renumbers}
use Rattle.profile.proofs.NewSheet.{shuffled, renumbered_sheet, defined_image, typed_image}
use Rattle.profile.proofs.NewValues.{values_same}
use Rattle.profile.proofs.NewLines.{recount, accepted_new}

-- the calls, on two texts

module _ (text : Bytes) (w0 w1 w2 : List ℕ) (out : Bytes) (l : Lent w0 w1 w2 out) where
  evaluate_as : (x : AcceptedSheet text) (r o : ℕ) → evaluate_call text r o w0 w1 w2 out ≡ evaluate_on x.sheet r o
  evaluate_as x r o = evaluate_lent text w0 w1 w2 out l r o ∙ on_accepted_lem text x (λ s ts. evaluate_on s r o)

  read_as : (x : AcceptedSheet text) → read_call text w0 w1 w2 out ≡ answer (type_lines x.typing.types)
  read_as x = read_lent text w0 w1 w2 out l ∙ on_accepted_lem text x (λ s ts. answer (type_lines ts))

  profile_as : (x : AcceptedSheet text) → profile_call text w0 w1 w2 out ≡ on_profile (first_outside x.sheet) (answer (type_lines x.typing.types))
  profile_as x = profile_lent text w0 w1 w2 out l ∙ on_accepted_lem text x (λ s ts. on_profile (first_outside s) (answer (type_lines ts)))

-- the new text's sheet
anew : (text other : Bytes) (x : AcceptedSheet text) (p : Permutation (length x.sheet.objects)) → read_text other ≡ accepted (renumbered_sheet x.sheet p) → AcceptedSheet other
unfolding renumbered_sheet shuffled
anew text other x p d = record {
  sheet = renumbered_sheet x.sheet p;
  is = d;
  defined = defined_image x.sheet p x.defined;
  typing = record { types = x.typing.types; all = typed_image x.sheet p x.typing.all };
}

module _ (text : Bytes) (w0 w1 w2 : List ℕ) (out : Bytes) (l : Lent w0 w1 w2 out) (other : Bytes) (v0 v1 v2 : List ℕ) (put : Bytes) (m : Lent v0 v1 v2 put) where
  same_values : (x : AcceptedSheet text) (p : Permutation (length x.sheet.objects)) (d : read_text other ≡ accepted (renumbered_sheet x.sheet p)) (r : ℕ)
      → outside_on x.sheet (get_elem? x.sheet.rules r) ≡ [] → (o : ℕ) → NoStop (evaluate_call text r o w0 w1 w2 out) → NoStop (evaluate_call other r (p.to o) v0 v1 v2 put)
      → SameValue p.to (evaluate_call text r o w0 w1 w2 out) (evaluate_call other r (p.to o) v0 v1 v2 put)
  unfolding anew renumbered_sheet
  same_values x p d r h o a b =
      let i = evaluate_as text w0 w1 w2 out l x r o in let j = evaluate_as other v0 v1 v2 put m (anew text other x p d) r (p.to o) in
      subst (λ v. SameValue p.to v (evaluate_call other r (p.to o) v0 v1 v2 put)) (sym i) (subst (SameValue p.to (evaluate_on x.sheet r o)) (sym j)
      (values_same x.sheet p (accepted_good text x.sheet x.is) (accepted_good other (renumbered_sheet x.sheet p) d) x.defined r x.typing.all h o (subst NoStop i a) (subst NoStop j b)))

  numbered_anew : (x : AcceptedSheet text) (p : Permutation (length x.sheet.objects)) → Renumbers p.to p.back text other → length other ≤ 49152
      → FreeNumbering text other w0 w1 w2 out v0 v1 v2 put p.to
  unfolding renumbered_sheet shuffled anew first_outside nodes_outside
  numbered_anew x p new short =
      let d = accepted_new text other x.sheet x.is p short new in
      record {
        accepted_too = read_as other v0 v1 v2 put m (anew text other x p d) ∙ sym (read_as text w0 w1 w2 out l x);
        profiled_too = profile_as other v0 v1 v2 put m (anew text other x p d) ∙ sym (profile_as text w0 w1 w2 out l x);
        same_values = λ r h o. same_values x p d r (subst (λ s. outside_on s (get_elem? s.rules r) ≡ []) (sheet_is text x.sheet x.is) h) o;
      }

pub free_numbering : FreeNumberingLaw
free_numbering text w0 w1 w2 out l a p other v0 v1 v2 put m new short =
    let x = accepted_of text (λ s ts. answer (type_lines ts)) (rw (read_lent text w0 w1 w2 out l) at a) in
    numbered_anew text w0 w1 w2 out l other v0 v1 v2 put m x (recount (ap (λ s. length s.objects) (sheet_is text x.sheet x.is)) p) new short
