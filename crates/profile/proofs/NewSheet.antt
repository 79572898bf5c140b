-- A sheet with its objects numbered anew, and its model. Assumes nothing.
use mathlib.Core.Path.{◌≡◌, refl, sym, ap, ◌∙◌, subst, fun_ext}
use mathlib.Core.Bool.{Bool, true, false, ◌&&◌}
use mathlib.Core.Option.{Option, some}
use mathlib.Core.List.{List, [], ◌∷◌}
use Prim.Native.Nat.{ℕ}
use native.Mathlib.Omega.{arith}
use borrow.Author.Tests.{ne_eqb}
use lib.ListN.{length, get_elem?}
use lib.Dec.{T, eqb, eqb→eq, eqb_refl, ltb, ltb→lt}
use Rattle.laws.specs.Choice.{map_some}
use Rattle.std.specs.Prelude.{if◌then◌else◌}
use Rattle.laws.specs.Lists.{Each}
use Rattle.laws.proofs.Tests.{by-if, by-test, test_true, test_false, test_same, or-e, and_l, and_r}
use Rattle.laws.proofs.Lists.{each_imp}
use Rattle.ocl.specs.Values.{Value}
use Rattle.ocl.specs.Model.{Model}
use Rattle.ocl.specs.Types.{Ty}
use Rattle.ocl.specs.Typing.{typed}
use Rattle.ocl.specs.Evaluation.{evaluate_rule}
use Rattle.ocl.specs.Laws.{literals, Agree}
use Rattle.ocl.specs.Forms.{calls}
use Rattle.ocl.specs.Soundness.{AcceptedModel, TypedDefinition}
use Rattle.sheet.specs.Calls.{typing_of, marks_of, outcome_of}
use Rattle.sheet.specs.Laws.{AllTyped, none_typed, one_typed, Defined}
use Rattle.sheet.specs.Sheet.{Slot, Rule, Sheet, lookup, model_of}
use Rattle.sheet.specs.ProfileLaws.{outside_on}
use Rattle.sheet.specs.Refusals.{after_slots}
use Rattle.sheet.proofs.NumbersKept.{AllKept}
use Rattle.profile.specs.Renumbering.{Permutation, renumbered, goes_through, SameUpTo}
use Rattle.profile.specs.RenumberedLines.{renumbered_objects, put_slot, renumbered_slot, renumbered_slots}
use Rattle.profile.proofs.Renumbering.{renumbering}
use Rattle.profile.proofs.NewObjects.{objects_count, class_image}

-- ---- the slots

-- a slot that comes before x has another object or row
before_other : (x y : Slot) → T (after_slots (y ∷ []) x.object x.row) → eqb x.object y.object && eqb x.row y.row ≡ false
unfolding after_slots
before_other x y h =
    or-e (ltb y.object x.object) (eqb y.object x.object && ltb y.row x.row) h
    (λ t. let k = ltb→lt y.object x.object t in rw (ne_eqb x.object y.object (λ e. omega arith)))
    (λ t. let k = ltb→lt y.row x.row (and_r (eqb y.object x.object) _ t) in rw (ne_eqb x.row y.row (λ e. omega arith)) (and-false (eqb x.object y.object)))
  where
    and-false : (b : Bool) → b && false ≡ false
    and-false true = refl
    and-false false = refl

abbrev at : ℕ → ℕ → Slot → Bool
at o i x = eqb o x.object && eqb i x.row

-- what is asked for is x or is not x
lookup_put : (x : Slot) (l : List Slot) (o i : ℕ) → lookup (put_slot x l) o i ≡ (if at o i x then some x.value else lookup l o i)
unfolding put_slot lookup
lookup_put x [] o i = refl
lookup_put x (y ∷ l) o i =
    by-if (λ z. lookup z o i ≡ (if at o i x then some x.value else lookup (y ∷ l) o i)) (after_slots (y ∷ []) x.object x.row) (y ∷ put_slot x l) (x ∷ y ∷ l)
    (λ t. skip t (lookup_put x l o i)) (λ t. refl)
  where
    here : T (after_slots (y ∷ []) x.object x.row) → T (at o i x) → at o i y ≡ false
    here t h =
        let e = eqb→eq o x.object (and_l (eqb o x.object) _ h) in let d = eqb→eq i x.row (and_r (eqb o x.object) _ h) in
        ap (λ k. eqb k y.object && eqb i y.row) e ∙ ap (λ k. eqb x.object y.object && eqb k y.row) d ∙ before_other x y t

    skip : T (after_slots (y ∷ []) x.object x.row) → lookup (put_slot x l) o i ≡ (if at o i x then some x.value else lookup l o i)
        → (if at o i y then some y.value else lookup (put_slot x l) o i) ≡ (if at o i x then some x.value else (if at o i y then some y.value else lookup l o i))
    skip t e =
        by-test (at o i x) (λ h. rw (here t h, e, test_true (at o i x) h)) (λ h. rw (e, test_false (at o i x) h))

module _ (to back : ℕ → ℕ) (to_back : (o : ℕ) → to (back o) ≡ o) (back_to : (o : ℕ) → back (to o) ≡ o) where
  same_object : (o q : ℕ) → eqb o (to q) ≡ eqb (back o) q
  same_object o q =
      test_same (eqb o (to q)) (eqb (back o) q) (λ t. subst (λ k. T (eqb (back o) k)) (ap back (eqb→eq o (to q) t) ∙ back_to q) (eqb_refl (back o)))
      (λ t. subst (λ k. T (eqb o k)) (sym (to_back o) ∙ ap to (eqb→eq (back o) q t)) (eqb_refl o))

  pub value_image : (l : List Slot) (o i : ℕ) → lookup (renumbered_slots to l) o i ≡ map_some (renumbered to) (lookup l (back o) i)
  unfolding renumbered_slots renumbered_slot lookup map_some
  value_image [] o i = refl
  value_image (x ∷ l) o i =
      lookup_put (renumbered_slot to x) (renumbered_slots to l) o i
      ∙ ap (λ b. if b && eqb i x.row then some (renumbered to x.value) else lookup (renumbered_slots to l) o i) (same_object o x.object)
      ∙ ap (λ z. if at (back o) i x then some (renumbered to x.value) else z) (value_image l o i)
      ∙ push (at (back o) i x) x.value (lookup l (back o) i)
    where
      push : (b : Bool) (v : Value) (z : Option Value) → (if b then some (renumbered to v) else map_some (renumbered to) z) ≡ map_some (renumbered to) (if b then some v else z)
      push true v z = refl
      push false v z = refl

-- ---- the sheet

unfoldable pub shuffled : (ℕ → ℕ) → (ℕ → ℕ) → Sheet → Sheet
shuffled to back s = record {
  block = s.block;
  parents = s.parents;
  rows = s.rows;
  objects = renumbered_objects back s.objects (length s.objects);
  slots = renumbered_slots to s.slots;
  lines = s.lines;
  definitions = s.definitions;
  rules = s.rules;
  current = s.current;
}

unfoldable pub renumbered_sheet : (s : Sheet) → Permutation (length s.objects) → Sheet
renumbered_sheet s p = shuffled p.to p.back s

-- a model's classes and rows, with other objects and values
abbrev peopled : Model → ℕ → (ℕ → Option ℕ) → (ℕ → ℕ → Option Value) → Model
peopled s n classes values = record {
  parent = s.parent;
  row_count = s.row_count;
  row = s.row;
  object_count = n;
  class_of = classes;
  value_of = values;
}

module _ (s : Sheet) (p : Permutation (length s.objects)) where
  abbrev s' : Sheet
  s' = renumbered_sheet s p

  abbrev m' : Model
  m' = peopled (model_of s) (length s.objects) (λ o. get_elem? s.objects (p.back o)) (λ o i. map_some (renumbered p.to) (lookup s.slots (p.back o) i))

  model_image : model_of s' ≡ m'
  unfolding model_of renumbered_sheet shuffled
  model_image =
      ap (λ n. peopled (model_of s) n (get_elem? s'.objects) (lookup s'.slots)) (objects_count p.back s.objects (length s.objects))
      ∙ ap (λ c. peopled (model_of s) (length s.objects) c (lookup s'.slots)) (fun_ext (class_image s.objects p))
      ∙ ap (λ v. peopled (model_of s) (length s.objects) (λ o. get_elem? s.objects (p.back o)) v)
      (fun_ext (λ o. fun_ext (λ i. value_image p.to p.back p.to_back p.back_to s.slots o i)))

  -- typing reads no object and no value, so that the marks are the same
  outcome_image : (x : Rule) (o : ℕ) → outcome_of s' x (p.to o) ≡ evaluate_rule m' (marks_of s) x.body (p.to o)
  unfolding outcome_of marks_of renumbered_sheet shuffled
  outcome_image x o = ap (λ m. evaluate_rule m (marks_of s) x.body (p.to o)) model_image

  -- a rule with no node outside the profile
  pub rule_image : (x : Rule) → AcceptedModel (model_of s) → AllKept (literals x.body) → Each (TypedDefinition (model_of s) (marks_of s)) (calls x.body) → (t : Ty) → (typing_of s x).answer ≡ typed t
      → Agree (marks_of s) (typing_of s x).marks → outside_on s (some x) ≡ [] → (o : ℕ) → T (goes_through (outcome_of s x o)) → T (goes_through (outcome_of s' x (p.to o)))
      → SameUpTo p.to (outcome_of s x o) (outcome_of s' x (p.to o))
  unfolding outcome_of model_of typing_of outside_on
  rule_image x f k d t q g h o a b =
      subst (SameUpTo p.to (outcome_of s x o)) (sym (outcome_image x o))
      (renumbering (model_of s) f p (marks_of s) x.body k d x.context t q g h o a (subst (λ y. T (goes_through y)) (outcome_image x o) b))

  pub defined_image : Each (Defined s) s.definitions → Each (Defined s') s.definitions
  unfolding renumbered_sheet shuffled
  defined_image d = each_imp (λ x h. record { typed_body = h.typed_body }) d

  pub typed_image : {xs : List Rule} {ts : List Ty} → AllTyped s xs ts → AllTyped s' xs ts
  unfolding typing_of renumbered_sheet shuffled
  typed_image none_typed = none_typed
  typed_image (one_typed q h) = one_typed q (typed_image h)
