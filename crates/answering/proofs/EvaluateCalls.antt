-- The call that evaluates a rule for an object. Assumes nothing.
use mathlib.Core.Path.{◌≡◌, refl, sym, ap, ◌∙◌}
use mathlib.Core.Logic.{◌≢◌}
use mathlib.Core.Bool.{Bool, true, false}
use mathlib.Core.Option.{Option, none, some}
use mathlib.Core.List.{List}
use Prim.Native.Nat.{ℕ, ◌+◌, ◌≤◌, ◌<◌}
use native.Mathlib.Omega.{arith}
use borrow.Author.Tests.{lt-ltb, le-ltb}
use lib.ListN.{get_or, get_elem?}
use Rattle.std.specs.Prelude.{if◌then◌else◌}
use Rattle.laws.specs.Lists.{Each}
use Rattle.laws.proofs.Tests.{by-if}
use Rattle.memory.specs.Map as memory
use Rattle.ocl.specs.Types.{class, Ty}
use Rattle.ocl.specs.Model.{Model, is_a}
use Rattle.ocl.specs.Operations.{Outcome, value, undefined, stuck, stop}
use Rattle.ocl.specs.Soundness.{Sound}
use Rattle.ocl.proofs.Stops.{stop_within}
use Rattle.sheet.specs.Text.{Bytes}
use Rattle.sheet.specs.Sheet.{Rule, Sheet, model_of}
use Rattle.sheet.specs.Reading.{accepted, read_text}
use Rattle.sheet.specs.Calls.{Verdict, refusal_at, refusal, on_accepted, on_rule, on_object, outcome_of, ended, evaluate_on}
use Rattle.sheet.specs.Laws.{AllTyped, Defined}
use Rattle.sheet.proofs.Soundness.{sound_rule}
use Rattle.sheet.proofs.Acceptance.{accepted_good}
use Rattle.sheet.proofs.NeverStuck.{type_of}
use Rattle.tables.specs.declared.Counts.{Counts}
use Rattle.outcomes.specs.declared.Ended.{Ended}
use Rattle.outcomes.specs.Answers.{Ends}
use Rattle.outcomes.specs.Tables.{IsA}
use Rattle.rules.specs.Accepted.{Accepted, KnownTyped}
use Rattle.rules.specs.Numbered.{EvaluatesNumbered}
use Rattle.rules.proofs.Ready.{ready}
use Rattle.rules.proofs.Lengths.{value_length}
use Rattle.opening.specs.declared.Answer.{Answer}
use Rattle.opening.specs.Answers.{answer_of}
use Rattle.opening.specs.Parts.{GivesAnswer, GivesFor}
use Rattle.answering.specs.Outcomes.{Fitting, GivesEnded}
use Rattle.opening.proofs.Answers.{gives_refusal}
use Rattle.opening.proofs.Readings.{accepted_number}

-- what evaluate does for a rule
abbrev for_object : ℕ → Sheet → Rule → Verdict
for_object o s x = on_object (model_of s) ((model_of s).class_of o) o x.context (ended (outcome_of s x o))

-- ---- the object

module _ (m : Model) (o c : ℕ) (v : Verdict) where
  absent : m.class_of o ≡ none → on_object m (m.class_of o) o c v ≡ refusal 14
  unfolding on_object
  absent e = rw e

  present : {d : ℕ} {b : Bool} → m.class_of o ≡ some d → is_a m o (class c) ≡ b → on_object m (m.class_of o) o c v ≡ (if b then v else refusal 15)
  unfolding on_object
  present e q = rw (e, q)

-- an object that is there, of the rule's context class or not
module _ {st : Counts} {w0 w1 : List ℕ} {b : Bool} {o : ℕ} (r : ℕ) (k : o < st.objects) (i : IsA st w0 o (get_or w0 (memory.contexts + r) 0) b) (s : Sheet) {ts : List Ty} (g : Accepted st w0 w1 s ts) (x : Rule)
    (q : get_elem? s.rules r ≡ some x) where
  object_is : is_a (model_of s) o (class x.context) ≡ b
  object_is =
      let y = ready g.lies in
      ap (λ (c : ℕ). is_a (model_of s) o (class c)) (sym (y.rule r x q).context) ∙ sym (i.is (model_of s) y.model)

  object_verdict : (v : Verdict) → on_object (model_of s) ((model_of s).class_of o) o x.context v ≡ (if b then v else refusal 15)
  object_verdict v =
      let e : (model_of s).class_of o ≡ some (get_or w0 (memory.objects + o) 0) = (ready g.lies).model.class_of o ∙ rw (lt-ltb o st.objects k) in
      present (model_of s) o x.context v e object_is

-- ---- on an accepted sheet

module _ {st : Counts} {w0 w1 w2 : List ℕ} where
  pub no_rule : {a : Answer} (r o : ℕ) (out : Bytes) → st.rules ≤ r → a ≡ answer_of (refusal_at 14 0) → GivesFor st w0 w1 w2 (λ s ts. evaluate_on s r o) a out out
  unfolding evaluate_on on_rule refusal
  no_rule r o out h e = record { for = λ s ts g i. rw ((ready g.lies).no_rule r h) (gives_refusal 14 0 out e) }

  for_rule : {a : Answer} {r : ℕ} {before after : Bytes} (o : ℕ) → r < st.rules
      → ((s : Sheet) (ts : List Ty) → Accepted st w0 w1 s ts → (x : Rule) → get_elem? s.rules r ≡ some x → GivesAnswer (for_object o s x) a before after)
      → GivesFor st w0 w1 w2 (λ s ts. evaluate_on s r o) a before after
  unfolding evaluate_on on_rule
  for_rule {r = r} o h k = record { for = λ s ts g i. let x = (ready g.lies).some_rule r h in rw x.1 (k s ts g x.0 x.1) }

  pub no_object : {a : Answer} {r o : ℕ} (out : Bytes) → r < st.rules → st.objects ≤ o → a ≡ answer_of (refusal_at 14 0) → GivesFor st w0 w1 w2 (λ s ts. evaluate_on s r o) a out out
  unfolding refusal
  no_object {o = o} out h k e =
      for_rule o h
      (λ s ts g x i. rw (absent (model_of s) o x.context (ended (outcome_of s x o)) ((ready g.lies).model.class_of o ∙ rw (le-ltb o st.objects k))) (gives_refusal 14 0 out e))

  pub other_class : {a : Answer} {r o : ℕ} (out : Bytes) → r < st.rules → o < st.objects → IsA st w0 o (get_or w0 (memory.contexts + r) 0) false → a ≡ answer_of (refusal_at 15 0)
      → GivesFor st w0 w1 w2 (λ s ts. evaluate_on s r o) a out out
  unfolding refusal
  other_class {r = r} {o = o} out h k i e =
      for_rule o h (λ s ts g x q. rw (object_verdict r k i s g x q (ended (outcome_of s x o))) (gives_refusal 15 0 out e))

  -- an object of the class: the rule is evaluated

  module _ {r o : ℕ} (h : r < st.rules) (k : o < st.objects) (i : IsA st w0 o (get_or w0 (memory.contexts + r) 0) true) {after : List ℕ} {e : Ended}
      (d : EvaluatesNumbered st w0 w1 r o w2 after e) where
    ends : (s : Sheet) (ts : List Ty) → Accepted st w0 w1 s ts → (x : Rule) → get_elem? s.rules r ≡ some x → Ends 1 after (outcome_of s x o) e
    ends s ts g x j = d.ends s g.lies g.marks x j

    pub fitting : KnownTyped st w0 w1 w2 → Fitting after e
    fitting u =
        let s = u.sheet in
        let g = u.accepted in
        let x = (ready g.lies).some_rule r h in
        let t = type_of g.typed r x.0 x.1 in
        let z = ends s u.types g x.0 x.1 in
        record {
          outcome = outcome_of s x.0 o;
          ends = z;
          short = λ v n q.
              let l = value_length g.lies g.defined r o x.1 t.1 (rw (object_is r k i s g x.0 x.1) tt) z q in
              omega arith;
        }

    pub evaluate_ended : {a : Answer} {out put : Bytes} → GivesEnded after e a out put → GivesFor st w0 w1 w2 (λ s ts. evaluate_on s r o) a out put
    evaluate_ended z =
        for_rule o h (λ s ts g x j. rw (object_verdict r k i s g x j (ended (outcome_of s x o))) (z.for (outcome_of s x o) (ends s ts g x j)))

-- ---- the call does not refuse with 1 once nothing is short

outcome_number : {m : Model} {t : Ty} {k : ℕ} (o : Outcome) → Sound m t k o → (ended o).number ≢ 1
unfolding ended refusal refusal_at
outcome_number (value v n) h q = omega arith
outcome_number (undefined n) h q = omega arith
outcome_number stuck h q = omega arith
outcome_number (stop c n) h q = omega (arith, stop_within (h.known_stop c n refl))

module _ (text : Bytes) (s : Sheet) {ts : List Ty} (r o : ℕ) (was : read_text text ≡ accepted s) (defined : Each (Defined s) s.definitions) (all : AllTyped s s.rules ts) where
  object_number : (x : Rule) → get_elem? s.rules r ≡ some x → (d : Option ℕ) → (on_object (model_of s) d o x.context (ended (outcome_of s x o))).number ≢ 1
  unfolding on_object refusal refusal_at
  object_number x q none z = omega arith
  object_number x q (some d) z =
      let t = type_of all r x q in
      by-if (λ (v : Verdict). v.number ≢ 1) (is_a (model_of s) o (class x.context)) _ _
      (λ i. outcome_number (outcome_of s x o) (sound_rule s (accepted_good text s was) defined r o x t.0 q t.1 i)) (λ i z. omega arith) z

  rule_number : (x : Option Rule) → get_elem? s.rules r ≡ x → (on_rule x (for_object o s)).number ≢ 1
  unfolding on_rule refusal refusal_at
  rule_number none q z = omega arith
  rule_number (some x) q z = object_number x q ((model_of s).class_of o) z

  evaluate_on_number : (evaluate_on s r o).number ≢ 1
  unfolding evaluate_on
  evaluate_on_number = rule_number (get_elem? s.rules r) refl

pub evaluate_number : (text : Bytes) (r o : ℕ) → (on_accepted text (λ s ts. evaluate_on s r o)).number ≢ 1
evaluate_number text r o = accepted_number text (λ s ts. evaluate_on s r o) (λ s ts e d h. evaluate_on_number text s r o e d h)
