-- Demand 3, from the bytes: what reading accepts is what the language's theorem asks, and the calls answer by its outcome. Assumes nothing.
use mathlib.Core.Path.{◌≡◌, refl, sym, ap, ◌∙◌, subst}
use mathlib.Core.Logic.{◌≢◌}
use mathlib.Core.Bool.{false}
use mathlib.Core.Option.{Option, none, some, some-injective, none-ne-some}
use mathlib.Core.List.{List, ◌∷◌}
use Prim.Native.Nat.{ℕ, zero, suc, ◌≤◌}
use native.Mathlib.Omega.{arith}
use borrow.Author.Tests.{le-ltb}
use lib.ListN.{length, get_elem?}
use lib.Dec.{T, T_not}
use Rattle.laws.specs.Lists.{Each, each_nil, each-cons}
use Rattle.laws.proofs.Tests.{by-if}
use Rattle.laws.proofs.Lists.{each_imp, each_at, member_exact}
use Rattle.laws.proofs.Elements.{each_elem}
use Rattle.ocl.specs.Types.{class, Ty, Class}
use Rattle.ocl.specs.Model.{Model, class_is_a, is_a}
use Rattle.ocl.specs.Forms.{Definition, reach, calls}
use Rattle.ocl.specs.Laws.{numbers, Agree}
use Rattle.ocl.specs.Marks.{Mark}
use Rattle.ocl.specs.Typing.{typed, refused, type_rule, type_definition}
use Rattle.ocl.specs.Environment.{start}
use Rattle.ocl.specs.Operations.{Outcome, value, undefined, stuck, stop, steps_of}
use Rattle.ocl.specs.Soundness.{Sound, TypedDefinition}
use Rattle.ocl.proofs.Soundness.{soundness}
use Rattle.ocl.proofs.Places.{typing_places, definition_places}
use Rattle.sheet.specs.Text.{Bytes, lines_of}
use Rattle.sheet.specs.Spelling.{read_type, spell_type}
use Rattle.sheet.specs.Sheet.{Rule, Sheet, schema_in, model_of}
use Rattle.sheet.specs.Reading.{accepted, read_text, sheet_from, sheet_in}
use Rattle.sheet.specs.Calls.{Verdict, answer, refusal_at, refusal, short_words, short_output, typing_of, on_accepted, type_lines, read_call, on_rule, on_object, marks_of, outcome_of, ended, evaluate_on, evaluate_call}
use Rattle.sheet.specs.Profile.{first_outside, on_profile, profile_of, profile_call}
use Rattle.sheet.specs.Soundness.{Lent, rule_reach, reach_of, context_has, of_context, Ending, undefined_end, value_end, stop_end, Demand3}
use Rattle.sheet.specs.Laws.{TypeRefusal, TypeRefusals, DefinitionRefusals, AllTyped, none_typed, one_typed, Defined}
use Rattle.sheet.proofs.Spelling.{type_back}
use Rattle.sheet.proofs.TypeLines.{type_line}
use Rattle.sheet.proofs.Split.{first_part}
use Rattle.sheet.proofs.Good.{Good}
use Rattle.sheet.proofs.Marks.{rule_agrees, all_agree}
use Rattle.sheet.proofs.Accepted.{accepted_of, on_accepted_lem}
use Rattle.sheet.proofs.Acceptance.{accepted_good, good_model}

-- ---- an outcome and what evaluate answers for it

module _ (m : Model) (t : Ty) (k : ℕ) where
  end_of : (o : Outcome) → Sound m t k o → Ending m t (ended o)
  unfolding ended
  end_of (value v n) h = value_end v (h.of_type v n refl) (h.of_size v n refl) (h.numbers_kept_lem v n refl) (h.formed v n refl)
  end_of (undefined n) h = undefined_end
  end_of stuck h = absurd (h.not_stuck refl)
  end_of (stop c n) h = stop_end (h.known_stop c n refl)

  steps_of_lem : (o : Outcome) → Sound m t k o → (ended o).steps ≤ k
  unfolding ended steps_of refusal refusal_at
  steps_of_lem (value v n) h = h.in_reach
  steps_of_lem (undefined n) h = h.in_reach
  steps_of_lem stuck h = h.in_reach
  steps_of_lem (stop c n) h = h.in_reach

  no_stop : (o : Outcome) → Sound m t k o → k ≤ 1000000 → (ended o).number ≢ 16
  unfolding ended
  no_stop (value v n) h l e = omega arith
  no_stop (undefined n) h l e = omega arith
  no_stop stuck h l e = absurd (h.not_stuck refl)
  no_stop (stop c n) h l e = h.no_step_stop l n (ap (λ x. stop x n) e)

-- ---- a sheet, a rule and an object of it

typed_definitions : {s : Sheet} {mark : ℕ → Mark} {ds : List Definition} → Each (Defined s) ds → Each (λ d. Agree mark (type_definition (schema_in s) d).marks) ds → Each (TypedDefinition (model_of s) mark) ds
unfolding model_of
typed_definitions each_nil each_nil = each_nil
typed_definitions (each-cons p h) (each-cons q k) = each-cons (record { typed_body = p.typed_body; marked = q }) (typed_definitions h k)

-- every definition that a rule reaches is the sheet's, and typed
pub reached_typed : (s : Sheet) → Good s → Each (Defined s) s.definitions → (r : ℕ) (x : Rule) → get_elem? s.rules r ≡ some x → Each (TypedDefinition (model_of s) (marks_of s)) (calls x.body)
reached_typed s g d r x e = each_imp (λ y a. each_elem a.index (typed_definitions d (all_agree s g)) a.there) (each_elem r g.rules e).called

pub sound_rule : (s : Sheet) → Good s → Each (Defined s) s.definitions → (r o : ℕ) (x : Rule) (t : Ty) → get_elem? s.rules r ≡ some x → (typing_of s x).answer ≡ typed t
    → T (is_a (model_of s) o (class x.context)) → Sound (model_of s) t (reach x.body) (outcome_of s x o)
unfolding typing_of outcome_of model_of
sound_rule s g d r o x t e h a =
    soundness (model_of s) (good_model s g) (marks_of s) x.body (each_elem r g.rules e).numbers_kept_lem (reached_typed s g d r x e) x.context o t h (rule_agrees s g r x e) a

-- ---- the calls, with every slice at its minimum or above

lent_words : {w0 w1 w2 : List ℕ} {out : Bytes} → Lent w0 w1 w2 out → short_words w0 w1 w2 ≡ false
unfolding short_words
lent_words {w0} {w1} {w2} l = rw (le-ltb (length w0) 8192 l.words0, le-ltb (length w1) 8192 l.words1, le-ltb (length w2) 8192 l.words2)

lent_output : {w0 w1 w2 : List ℕ} {out : Bytes} → Lent w0 w1 w2 out → short_output out ≡ false
unfolding short_output
lent_output {out} l = le-ltb (length out) 2560 l.output

module _ (text : Bytes) (w0 w1 w2 : List ℕ) (out : Bytes) (l : Lent w0 w1 w2 out) where
  pub read_lent : read_call text w0 w1 w2 out ≡ on_accepted text (λ s ts. answer (type_lines ts))
  unfolding read_call
  read_lent = rw (lent_words l, lent_output l)

  pub profile_lent : profile_call text w0 w1 w2 out ≡ on_accepted text (λ s ts. on_profile (first_outside s) (answer (type_lines ts)))
  unfolding profile_call profile_of
  profile_lent = rw (lent_words l, lent_output l)

  pub evaluate_lent : (r o : ℕ) → evaluate_call text r o w0 w1 w2 out ≡ on_accepted text (λ s ts. evaluate_on s r o)
  unfolding evaluate_call
  evaluate_lent r o = rw (lent_words l, lent_output l)

-- ---- a rule's type is its line

-- a type has a spelling of its own
spell_type_one : (t u : Ty) → spell_type t ≡ spell_type u → t ≡ u
spell_type_one t u e = some-injective t u (sym (type_back t) ∙ ap read_type e ∙ type_back u)

-- the first type is the first line, and the other lines are the other types
first_line : (t : Ty) (ts : List Ty) → lines_of (type_lines (t ∷ ts)) ≡ spell_type t ∷ lines_of (type_lines ts)
unfolding lines_of type_lines
first_line t ts = first_part 10 (spell_type t) (type_lines ts) (type_line t)

type_at : {s : Sheet} {xs : List Rule} {ts : List Ty} → AllTyped s xs ts → (r : ℕ) (x : Rule) (t : Ty) → get_elem? xs r ≡ some x
    → get_elem? (lines_of (type_lines ts)) r ≡ some (spell_type t) → (typing_of s x).answer ≡ typed t
type_at none_typed r x t e q = absurd (none-ne-some _ e)
type_at {s} (one_typed {t = u} {ts = ts} a h) zero x t e q =
    let z = some-injective _ _ (ap (λ l. get_elem? l 0) (sym (first_line u ts)) ∙ q) in
    subst (λ w. (typing_of s w).answer ≡ typed t) (some-injective _ _ e) (a ∙ ap typed (spell_type_one u t z))
type_at (one_typed {t = u} {ts = ts} a h) (suc r) x t e q = type_at h r x t e (ap (λ l. get_elem? l (suc r)) (sym (first_line u ts)) ∙ q)

-- ---- on a sheet, and on a text

record SoundOn (s : Sheet) (x : Option Rule) (o : ℕ) (t : Ty) (v : Verdict) : Type 0 where
  not_stuck : (y : Rule) → x ≡ some y → outcome_of s y o ≢ stuck
  ending : Ending (model_of s) t v
  in_reach : v.steps ≤ rule_reach x
  no_step_stop : rule_reach x ≤ 1000000 → v.number ≢ 16

-- an object of the context class is there, so that evaluate answers by the outcome
object_there : (m : Model) (d : Option ℕ) (o c : ℕ) (v : Verdict) → m.class_of o ≡ d → T (is_a m o (class c)) → on_object m d o c v ≡ v
unfolding on_object is_a class_is_a
object_there m none o c v e h = absurd (rw e at h)
object_there m (some d) o c v e h = by-if (λ w. w ≡ v) (is_a m o (class c)) v (refusal 15) (λ t. refl) (λ t. absurd (T_not (is_a m o (class c)) t h))

sound_sheet : (s : Sheet) → Good s → Each (Defined s) s.definitions → (r o : ℕ) (t : Ty) (x : Option Rule) → get_elem? s.rules r ≡ x
    → ((y : Rule) → get_elem? s.rules r ≡ some y → (typing_of s y).answer ≡ typed t) → T (context_has s x o)
    → SoundOn s x o t (on_rule x (λ y. on_object (model_of s) ((model_of s).class_of o) o y.context (ended (outcome_of s y o))))
unfolding context_has on_rule rule_reach
sound_sheet s g d r o t none e h c = absurd c
sound_sheet s g d r o t (some y) e h c =
    let z = sound_rule s g d r o y t e (h y e) c in
    rw (object_there (model_of s) ((model_of s).class_of o) o y.context (ended (outcome_of s y o)) refl c)
    (record {
      not_stuck = λ w q. let i : y ≡ w = cc in subst (λ u. outcome_of s u o ≢ stuck) i z.not_stuck;
      ending = end_of (model_of s) t (reach y.body) (outcome_of s y o) z;
      in_reach = steps_of_lem (model_of s) t (reach y.body) (outcome_of s y o) z;
      no_step_stop = no_stop (model_of s) t (reach y.body) (outcome_of s y o) z;
    })

pub sheet_is : (text : Bytes) (s : Sheet) → read_text text ≡ accepted s → sheet_in text ≡ s
unfolding sheet_in sheet_from
sheet_is text s e = rw e

pub demand3 : Demand3
unfolding reach_of of_context evaluate_on
demand3 text w0 w1 w2 out l r o t a b c =
    let x = accepted_of text (λ s ts. answer (type_lines ts)) (rw (read_lent text w0 w1 w2 out l) at a) in
    let z = sheet_is text x.sheet x.is in
    let q = rw (read_lent text w0 w1 w2 out l, on_accepted_lem text x (λ s ts. answer (type_lines ts))) at b in
    let y = sound_sheet x.sheet (accepted_good text x.sheet x.is) x.defined r o t (get_elem? x.sheet.rules r) refl
    (λ u e. type_at x.typing.all r u t e (unfold answer in q)) (rw z at c) in
    let v = subst (λ u. SoundOn u (get_elem? u.rules r) o t (evaluate_on x.sheet r o)) (sym z) y in
    rw (evaluate_lent text w0 w1 w2 out l r o, on_accepted_lem text x (λ s ts. evaluate_on s r o))
    (record { not_stuck = v.not_stuck; ending = v.ending; in_reach = v.in_reach; no_step_stop = v.no_step_stop })

-- ---- what typing refuses, on a sheet that is read

pub good_refusals : (s : Sheet) → Good s → (r : ℕ) (x : Rule) → get_elem? s.rules r ≡ some x → (n p : ℕ) → (typing_of s x).answer ≡ refused n p → TypeRefusal s x.body n p
unfolding typing_of type_rule
good_refusals s good r x q n p h =
    let g = each_elem r good.rules q in
    let k = (typing_places (schema_in s) x.body (start (Class x.context))).refusals n p h in
    record { low = k.low; high = k.high; own_node = k.placed; on_sheet = each_at g.on_sheet ((member_exact p (numbers x.body)).0 k.placed) }

pub type_refusals : TypeRefusals
type_refusals text s e = good_refusals s (accepted_good text s e)

pub good_definition_refusals : (s : Sheet) → Good s → (r : ℕ) (d : Definition) → get_elem? s.definitions r ≡ some d
    → (n p : ℕ) → (type_definition (schema_in s) d).answer ≡ refused n p → TypeRefusal s d.body n p
good_definition_refusals s good r d q n p h =
    let g = (each_elem r good.definitions q).body in
    let k = definition_places (schema_in s) d n p h in
    record { low = k.low; high = k.high; own_node = k.placed; on_sheet = each_at g.on_sheet ((member_exact p (numbers d.body)).0 k.placed) }

pub definition_refusals : DefinitionRefusals
definition_refusals text s e = good_definition_refusals s (accepted_good text s e)
