-- What stands for stuck is never seen: each call's number is one of the documents', and `!100` is in no report. Assumes nothing.
use mathlib.Core.Path.{◌≡◌, refl, ap, ◌∙◌, subst}
use mathlib.Core.Bool.{Bool, ◌||◌}
use mathlib.Core.Option.{Option, none, some, some-injective, none-ne-some}
use mathlib.Core.List.{List, [], ◌∷◌}
use Prim.Native.Nat.{ℕ, zero, suc, ◌≤◌}
use native.Mathlib.Omega.{arith}
use lib.ListN.{length, get_elem?}
use lib.Dec.{T, eqb, ltb}
use Rattle.std.specs.Prelude.{if◌then◌else◌}
use Rattle.laws.specs.Lists.{Each, each_nil, each-cons}
use Rattle.laws.proofs.Tests.{by-if}
use Rattle.ocl.specs.Types.{class, Ty, Class}
use Rattle.ocl.specs.Model.{Model, is_a}
use Rattle.ocl.specs.Forms.{Definition, reach}
use Rattle.ocl.specs.Environment.{start}
use Rattle.ocl.specs.Typing.{Answer, typed, refused, type_rule, type_definition}
use Rattle.ocl.specs.Operations.{Outcome, value, undefined, stuck, stop, Stop, step_stop, size_stop, range_stop, steps_of}
use Rattle.ocl.specs.Soundness.{Sound}
use Rattle.ocl.proofs.Places.{typing_places, definition_places}
use Rattle.ocl.proofs.Means.{definition_type}
use Rattle.ocl.proofs.Stops.{stop_within}
use Rattle.sheet.specs.Text.{Bytes, byte, bytes, spell_digits, spell_number}
use Rattle.sheet.specs.Sheet.{Rule, Sheet, schema_in, model_of}
use Rattle.sheet.specs.Reading.{Reading, accepted, rejected, read_text}
use Rattle.sheet.specs.Calls.{Verdict, answer, refusal_at, refusal, short_words, short_output, on_sheet, typing_of, on_type, on_types, on_definitions, on_accepted, type_lines, read_call, on_rule, on_object, outcome_of, ended, evaluate_on, evaluate_call}
use Rattle.sheet.specs.Report.{spell_outcome, report_line, object_lines, rule_lines, fitting, report_of, report_call, printed, program}
use Rattle.sheet.specs.Profile.{first_outside, on_profile, profile_of, profile_call}
use Rattle.sheet.specs.Rows.{rows_into, rows_call}
use Rattle.sheet.specs.Origin.{origins_of, origin_call}
use Rattle.sheet.specs.Laws.{ReadRefusal, over_length, at_line, AllTyped, none_typed, one_typed, Defined}
use Rattle.sheet.specs.Soundness.{NeverStuckLaw}
use Rattle.sheet.proofs.Listed.{listed_within, read_refusals}
use Rattle.sheet.proofs.Good.{Good}
use Rattle.sheet.proofs.Acceptance.{accepted_good}
use Rattle.sheet.proofs.Soundness.{sound_rule}
use Rattle.sheet.proofs.Clean.{Clean, clean_end, clean_space, clean_stop, other, ◌next◌, clean_free, clean_number, clean_value, space, feed}

-- a stop is `!16`, `!17` or `!19`; stuck is not met
module _ (m : Model) (t : Ty) (k : ℕ) where
  clean_outcome : (o : Outcome) → Sound m t k o → Clean (spell_outcome o)
  unfolding spell_outcome bytes
  clean_outcome (value v n) h = clean_value v
  clean_outcome (undefined n) h = other 117 tt clean_end
  clean_outcome stuck h = absurd (h.not_stuck refl)
  clean_outcome (stop c n) h = by (h.known_stop c n refl)
    where
      by : {c : ℕ} → Stop c → Clean (byte "!" ∷ spell_number c)
      by step_stop = unfold spell_number spell_digits in clean_stop {b = 54} (λ (q : ◌≡◌ {A = ℕ} 54 48). omega arith) (other 54 tt clean_end)
      by size_stop = unfold spell_number spell_digits in clean_stop {b = 55} (λ (q : ◌≡◌ {A = ℕ} 55 48). omega arith) (other 55 tt clean_end)
      by range_stop = unfold spell_number spell_digits in clean_stop {b = 57} (λ (q : ◌≡◌ {A = ℕ} 57 48). omega arith) (other 57 tt clean_end)

  clean_line : (r i : ℕ) (o : Outcome) → Sound m t k o → Clean (report_line r i o)
  unfolding report_line bytes
  clean_line r i o h =
      clean_number r next space next clean_number i next space next clean_outcome o h next space next clean_number (steps_of o) next feed

  ended_number : (o : Outcome) → Sound m t k o → (ended o).number ≤ 24
  unfolding ended
  ended_number (value v n) h = omega arith
  ended_number (undefined n) h = omega arith
  ended_number stuck h = absurd (h.not_stuck refl)
  ended_number (stop c n) h = omega (arith, stop_within (h.known_stop c n refl))

-- ---- the lines of a report, on a sheet whose rules have types

-- a rule has a type, and its outcomes are sound for it
abbrev pub SoundRule : Sheet → Rule → Type 0
SoundRule s x = (t : Ty) × ((o : ℕ) → T (is_a (model_of s) o (class x.context)) → Sound (model_of s) t (reach x.body) (outcome_of s x o))

abbrev pub SoundRules : Sheet → List Rule → Type 0
SoundRules s xs = (i : ℕ) (x : Rule) → get_elem? xs i ≡ some x → SoundRule s x

clean_objects : (s : Sheet) (r : ℕ) (x : Rule) → SoundRule s x → (n : ℕ) → Clean (object_lines s r x n)
unfolding object_lines
clean_objects s r x h zero = clean_end
clean_objects s r x h (suc n) =
    clean_objects s r x h n
    next (by-if Clean (is_a (model_of s) n (class x.context)) (report_line r n (outcome_of s x n)) []
    (λ a. clean_line (model_of s) h.0 (reach x.body) r n (outcome_of s x n) (h.1 n a)) (λ a. clean_end))

pub clean_rules : (s : Sheet) (r : ℕ) (xs : List Rule) → SoundRules s xs → Clean (rule_lines s r xs)
unfolding rule_lines
clean_rules s r [] h = clean_end
clean_rules s r (x ∷ xs) h = clean_objects s r x (h 0 x refl) (length s.objects) next clean_rules s (suc r) xs (λ i. h (suc i))

-- ---- the calls: what holds of every refusal that the documents list, and of what follows an accepted sheet and a rule

pub type_of : {s : Sheet} {xs : List Rule} {ts : List Ty} → AllTyped s xs ts → (r : ℕ) (x : Rule) → get_elem? xs r ≡ some x → (t : Ty) × ((typing_of s x).answer ≡ typed t)
type_of none_typed r x e = absurd (none-ne-some _ e)
type_of {s} (one_typed {t} a h) zero x e = (t, subst (λ y. (typing_of s y).answer ≡ typed t) (some-injective _ _ e) a)
type_of (one_typed a h) (suc r) x e = type_of h r x e

pub sound_rules : (s : Sheet) → Good s → Each (Defined s) s.definitions → {ts : List Ty} → AllTyped s s.rules ts → SoundRules s s.rules
sound_rules s g d k r x e = let h = type_of k r x e in (h.0, λ o a. sound_rule s g d r o x h.0 e h.1 a)

module _ (P : Verdict → Type 0) (p : (n k : ℕ) → n ≤ 24 → P (refusal_at n k)) where
  on_reading : (text : Bytes) (f : Sheet → Verdict) → ((s : Sheet) → Good s → P (f s)) → P (on_sheet (read_text text) f)
  unfolding on_sheet
  on_reading text f h = by (read_text text) refl
    where
      high : (n k : ℕ) → ReadRefusal text n k → n ≤ 24
      high n k (over_length a b) = omega arith
      high n k (at_line a b c) = (listed_within n a).1

      by : (x : Reading) → read_text text ≡ x → P (on_sheet x f)
      by (accepted s) e = h s (accepted_good text s e)
      by (rejected n k) e = p n k (high n k (read_refusals text n k e))

  on_definitions_lem : (s : Sheet) (ds : List Definition) (v : Verdict) → (Each (Defined s) ds → P v) → P (on_definitions s ds v)
  unfolding on_definitions on_type
  on_definitions_lem s [] v h = h each_nil
  on_definitions_lem s (d ∷ ds) v h = by (type_definition (schema_in s) d).answer refl (λ q. on_definitions_lem s ds v (λ k. h (each-cons q k)))
    where
      by : (a : Answer) → (type_definition (schema_in s) d).answer ≡ a → (Defined s d → P (on_definitions s ds v)) → P (on_type s a (λ t. on_definitions s ds v))
      by (typed t) e g = g (record { typed_body = e ∙ ap typed (definition_type (schema_in s) d t e) })
      by (refused n q) e g = p n _ (omega (arith, (definition_places (schema_in s) d n q e).high))

  on_type_lem : (s : Sheet) (x : Rule) (f : Ty → Verdict) → ((t : Ty) → (typing_of s x).answer ≡ typed t → P (f t)) → P (on_type s (typing_of s x).answer f)
  unfolding on_type typing_of type_rule
  on_type_lem s x f h = by (typing_of s x).answer refl
    where
      by : (a : Answer) → (typing_of s x).answer ≡ a → P (on_type s a f)
      by (typed t) e = h t e
      by (refused n q) e = p n _ (omega (arith, ((typing_places (schema_in s) x.body (start (Class x.context))).refusals n q e).high))

  on_types_lem : (s : Sheet) (xs : List Rule) (f : List Ty → Verdict) → ((ts : List Ty) → AllTyped s xs ts → P (f ts)) → P (on_types s xs f)
  unfolding on_types
  on_types_lem s [] f h = h [] none_typed
  on_types_lem s (x ∷ xs) f h = on_type_lem s x _ (λ t e. on_types_lem s xs _ (λ ts k. h (t ∷ ts) (one_typed e k)))

  on_text : (text : Bytes) (f : Sheet → List Ty → Verdict) → ((s : Sheet) (ts : List Ty) → SoundRules s s.rules → P (f s ts)) → P (on_accepted text f)
  unfolding on_accepted
  on_text text f h = on_reading text _ (λ s g. on_definitions_lem s s.definitions _ (λ d. on_types_lem s s.rules (f s) (λ ts k. h s ts (sound_rules s g d k))))

  on_rule_lem : (xs : List Rule) (r : ℕ) (f : Rule → Verdict) → ((x : Rule) → get_elem? xs r ≡ some x → P (f x)) → P (on_rule (get_elem? xs r) f)
  unfolding on_rule refusal
  on_rule_lem xs r f h = by (get_elem? xs r) refl
    where
      by : (x : Option Rule) → get_elem? xs r ≡ x → P (on_rule x f)
      by none e = p 14 0 (omega arith)
      by (some x) e = h x e

  on_object_lem : (m : Model) (d : Option ℕ) (o c : ℕ) (v : Verdict) → (T (is_a m o (class c)) → P v) → P (on_object m d o c v)
  unfolding on_object refusal
  on_object_lem m none o c v h = p 14 0 (omega arith)
  on_object_lem m (some d) o c v h = by-if P (is_a m o (class c)) v (refusal 15) h (λ t. p 15 0 (omega arith))

abbrev pub Low : Verdict → Type 0
Low v = v.number ≤ 24

low : (n k : ℕ) → n ≤ 24 → Low (refusal_at n k)
unfolding refusal_at
low n k h = h

low_answer : (b : Bytes) → Low (answer b)
unfolding answer
low_answer b = omega arith

low_profile : (o : Option ℕ) (v : Verdict) → Low v → Low (on_profile o v)
unfolding on_profile
low_profile none v h = h
low_profile (some k) v h = low 22 k (omega arith)

-- 1 for a short slice
lent_by : (P : Verdict → Type 0) (b : Bool) (v : Verdict) → P (refusal_at 1 0) → P v → P (if b then refusal 1 else v)
unfolding refusal
lent_by P b v h k = by-if P b (refusal 1) v (λ t. h) (λ t. k)

evaluate_low : (s : Sheet) → SoundRules s s.rules → (r o : ℕ) → Low (evaluate_on s r o)
unfolding evaluate_on
evaluate_low s h r o = on_rule_lem Low low s.rules r _ (λ x e.
    on_object_lem Low low (model_of s) ((model_of s).class_of o) o x.context _ (λ a.
    ended_number (model_of s) (h r x e).0 (reach x.body) (outcome_of s x o) ((h r x e).1 o a)))

-- a number of the documents, and no `!100`
record Listed (v : Verdict) : Type 0 where
  number : v.number ≤ 24
  clean : Clean v.output

listed : (n k : ℕ) → n ≤ 24 → Listed (refusal_at n k)
unfolding refusal_at
listed n k h = record { number = h; clean = clean_end }

report_listed : (text : Bytes) (room : ℕ) → Listed (report_of text room)
unfolding report_of fitting answer refusal
report_listed text room = on_text Listed listed text _ (λ s ts h.
    by-if Listed (ltb room (length (rule_lines s 0 s.rules))) (refusal_at 18 0) (answer (rule_lines s 0 s.rules))
    (λ t. listed 18 0 (omega arith)) (λ t. record { number = omega arith; clean = clean_rules s 0 s.rules h }))

clean_printed : (v : Verdict) → Listed v → Clean (printed v)
unfolding printed bytes
clean_printed v h =
    by-if Clean (eqb v.number 0) v.output _ (λ t. h.clean)
    (λ t. clean_space clean_end next clean_number v.number next space next clean_number v.place next feed)

-- calls that write lines of an accepted sheet, or refuse them as too long
pub fitting_low : (room : ℕ) (b : Bytes) → Low (fitting room b)
unfolding fitting answer refusal refusal_at
fitting_low room b = by-if Low (ltb room (length b)) _ _ (λ t. omega arith) (λ t. omega arith)

pub accepted_low : (text : Bytes) (f : Sheet → List Ty → Verdict) → ((s : Sheet) (ts : List Ty) → Low (f s ts)) → Low (on_accepted text f)
accepted_low text f h = on_text Low low text f (λ s ts k. h s ts)

pub never_stuck : NeverStuckLaw
unfolding read_call evaluate_call profile_call profile_of report_call rows_call rows_into origin_call origins_of program bytes
never_stuck text w0 w1 w2 out =
    let short = short_words w0 w1 w2 || short_output out in
    let reported = lent_by Listed short _ (listed 1 0 (omega arith)) (report_listed text (length out)) in
    record {
      read_number = lent_by Low short _ (low 1 0 (omega arith)) (on_text Low low text _ (λ s ts h. low_answer (type_lines ts)));
      evaluate_number = λ r o. lent_by Low short _ (low 1 0 (omega arith)) (on_text Low low text _ (λ s ts h. evaluate_low s h r o));
      profile_number = lent_by Low short _ (low 1 0 (omega arith)) (on_text Low low text _ (λ s ts h. low_profile (first_outside s) _ (low_answer (type_lines ts))));
      report_number = reported.number;
      rows_number = lent_by Low short _ (low 1 0 (omega arith)) (accepted_low text _ (λ s ts. fitting_low (length out) _));
      origin_number = lent_by Low short _ (low 1 0 (omega arith)) (accepted_low text _ (λ s ts. fitting_low (length out) _));
      report_bytes = λ a b. clean_free a b reported.clean;
      program_bytes = λ a b. clean_free a b (clean_printed (report_of text 65536) (report_listed text 65536));
    }
