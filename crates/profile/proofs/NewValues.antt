-- What evaluate answers for a rule in the profile, on a sheet and on the sheet with its objects numbered anew. Assumes nothing.
use mathlib.Core.Path.{◌≡◌, refl, sym, ap, ◌∙◌, subst}
use mathlib.Core.Logic.{◌≢◌}
use mathlib.Core.Bool.{Bool, true, false, true≢false}
use mathlib.Core.Option.{Option, none, some}
use mathlib.Core.List.{List, []}
use Prim.Native.Nat.{ℕ}
use lib.ListN.{length, get_or, get_elem?}
use lib.Dec.{T}
use Rattle.std.specs.Prelude.{if◌then◌else◌}
use Rattle.laws.specs.Lists.{Each}
use Rattle.laws.proofs.Elements.{each_elem}
use Rattle.ocl.specs.Model.{class_is_a, is_a}
use Rattle.ocl.specs.Types.{class, Ty}
use Rattle.ocl.specs.Typing.{typed}
use Rattle.ocl.specs.Operations.{Outcome, value, undefined, stuck, stop, Stop}
use Rattle.sheet.specs.Calls.{Verdict, refusal, typing_of, on_rule, on_object, outcome_of, ended, evaluate_on}
use Rattle.sheet.specs.Laws.{AllTyped, Defined}
use Rattle.sheet.specs.Sheet.{Rule, Sheet, model_of}
use Rattle.sheet.specs.ProfileLaws.{outside_on}
use Rattle.sheet.proofs.Good.{Good}
use Rattle.sheet.proofs.Acceptance.{good_model}
use Rattle.sheet.proofs.Marks.{rule_agrees}
use Rattle.sheet.proofs.Soundness.{sound_rule, reached_typed}
use Rattle.sheet.proofs.NeverStuck.{type_of}
use Rattle.profile.specs.Renumbering.{Permutation, goes_through, SameUpTo, both_values, both_undefined}
use Rattle.profile.specs.FreeNumbering.{SameValue, value_twice, undefined_twice, refused_twice, NoStop}
use Rattle.profile.proofs.NewObjects.{class_image}
use Rattle.profile.proofs.NewSheet.{shuffled, renumbered_sheet, rule_image, defined_image}

-- ---- what evaluate answers on both

-- a typed rule goes through unless it stops
through : (o : Outcome) → o ≢ stuck → ((c n : ℕ) → o ≡ stop c n → Stop c) → NoStop (ended o) → T (goes_through o)
unfolding ended goes_through
through (value v n) h k t = tt
through (undefined n) h k t = tt
through stuck h k t = h refl
through (stop c n) h k t = t c (k c n refl) refl

same_ended : {to : ℕ → ℕ} {x y : Outcome} → SameUpTo to x y → SameValue to (ended x) (ended y)
unfolding ended
same_ended (both_values {v}) = value_twice v
same_ended both_undefined = undefined_twice

module _ (s : Sheet) (p : Permutation (length s.objects)) (g : Good s) (g' : Good (renumbered_sheet s p)) (d : Each (Defined s) s.definitions) (r : ℕ) where
  abbrev t' : Sheet
  t' = renumbered_sheet s p

  module _ (x : Rule) (e : get_elem? s.rules r ≡ some x) (t : Ty) (q : (typing_of s x).answer ≡ typed t) (h : outside_on s (some x) ≡ []) (o : ℕ) where
    is_a_same : is_a (model_of t') (p.to o) (class x.context) ≡ is_a (model_of s) o (class x.context)
    unfolding is_a model_of renumbered_sheet shuffled
    is_a_same = ap (λ d. class_is_a (λ c. get_or s.parents c none) d (class x.context)) (class_image s.objects p (p.to o) ∙ ap (get_elem? s.objects) (p.back_to o))

    class_same : (model_of t').class_of (p.to o) ≡ (model_of s).class_of o
    unfolding model_of renumbered_sheet shuffled
    class_same = class_image s.objects p (p.to o) ∙ ap (get_elem? s.objects) (p.back_to o)

    ended_same : T (is_a (model_of s) o (class x.context)) → NoStop (ended (outcome_of s x o)) → NoStop (ended (outcome_of t' x (p.to o)))
        → SameValue p.to (ended (outcome_of s x o)) (ended (outcome_of t' x (p.to o)))
    unfolding renumbered_sheet shuffled typing_of
    ended_same i a b =
        let y = sound_rule s g d r o x t e q i in
        let z = sound_rule t' g' (defined_image s p d) r (p.to o) x t e q (subst T (sym is_a_same) i) in
        same_ended (rule_image s p x (good_model s g) (each_elem r g.rules e).numbers_kept_lem (reached_typed s g d r x e) t q (rule_agrees s g r x e) h o
        (through (outcome_of s x o) y.not_stuck y.known_stop a) (through (outcome_of t' x (p.to o)) z.not_stuck z.known_stop b))

    object_same : (c : Option ℕ) (v w : Verdict) → (T (is_a (model_of s) o (class x.context)) → NoStop v → NoStop w → SameValue p.to v w)
        → NoStop (on_object (model_of s) c o x.context v) → NoStop (on_object (model_of t') c (p.to o) x.context w)
        → SameValue p.to (on_object (model_of s) c o x.context v) (on_object (model_of t') c (p.to o) x.context w)
    unfolding on_object refusal
    object_same none v w k a b = refused_twice 14 0
    object_same (some c) v w k a b = by (is_a (model_of s) o (class x.context)) (is_a (model_of t') (p.to o) (class x.context)) refl is_a_same a b
      where
        by : (c i : Bool) → is_a (model_of s) o (class x.context) ≡ c → i ≡ is_a (model_of s) o (class x.context) → NoStop (if c then v else refusal 15) → NoStop (if i then w else refusal 15)
            → SameValue p.to (if c then v else refusal 15) (if i then w else refusal 15)
        by true true q z a b = k (subst T (sym q) tt) a b
        by true false q z a b = absurd (true≢false (sym (z ∙ q)))
        by false true q z a b = absurd (true≢false (z ∙ q))
        by false false q z a b = refused_twice 15 0

    rule_same : NoStop (on_object (model_of s) ((model_of s).class_of o) o x.context (ended (outcome_of s x o)))
        → NoStop (on_object (model_of t') ((model_of t').class_of (p.to o)) (p.to o) x.context (ended (outcome_of t' x (p.to o))))
        → SameValue p.to (on_object (model_of s) ((model_of s).class_of o) o x.context (ended (outcome_of s x o)))
        (on_object (model_of t') ((model_of t').class_of (p.to o)) (p.to o) x.context (ended (outcome_of t' x (p.to o))))
    rule_same = rw class_same (object_same ((model_of s).class_of o) (ended (outcome_of s x o)) (ended (outcome_of t' x (p.to o))) ended_same)

  evaluate_same : {ts : List Ty} → AllTyped s s.rules ts → (y : Option Rule) → get_elem? s.rules r ≡ y → outside_on s y ≡ [] → (o : ℕ)
      → NoStop (on_rule y (λ x. on_object (model_of s) ((model_of s).class_of o) o x.context (ended (outcome_of s x o))))
      → NoStop (on_rule y (λ x. on_object (model_of t') ((model_of t').class_of (p.to o)) (p.to o) x.context (ended (outcome_of t' x (p.to o)))))
      → SameValue p.to (on_rule y (λ x. on_object (model_of s) ((model_of s).class_of o) o x.context (ended (outcome_of s x o))))
      (on_rule y (λ x. on_object (model_of t') ((model_of t').class_of (p.to o)) (p.to o) x.context (ended (outcome_of t' x (p.to o)))))
  unfolding on_rule refusal
  evaluate_same k none e h o a b = refused_twice 14 0
  evaluate_same k (some x) e h o a b = let z = type_of k r x e in rule_same x e z.0 z.1 h o a b

  pub values_same : {ts : List Ty} → AllTyped s s.rules ts → outside_on s (get_elem? s.rules r) ≡ [] → (o : ℕ) → NoStop (evaluate_on s r o) → NoStop (evaluate_on t' r (p.to o))
      → SameValue p.to (evaluate_on s r o) (evaluate_on t' r (p.to o))
  unfolding evaluate_on renumbered_sheet shuffled
  values_same k h o a b = evaluate_same k (get_elem? s.rules r) refl h o a b
