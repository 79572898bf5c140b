-- A text of any length opened, and what follows in a call. Assumes nothing.
use mathlib.Core.Path.{◌≡◌, refl, ap, ◌∙◌}
use mathlib.Core.Logic.{◌≢◌}
use mathlib.Core.Option.{some}
use mathlib.Core.List.{List, [], ◌∷◌}
use Prim.Native.Nat.{ℕ, suc, ◌≤◌, ◌<◌}
use native.Mathlib.Omega.{arith}
use borrow.Author.Tests.{lt-ltb, le-ltb}
use lib.ListN.{length, get_elem?}
use Rattle.laws.specs.Lists.{Each, each_nil, each-cons}
use Rattle.ocl.specs.Types.{Ty}
use Rattle.ocl.specs.Forms.{Definition}
use Rattle.ocl.specs.Typing.{Answer as TypeAnswer, typed, refused as untyped, type_definition}
use Rattle.ocl.proofs.Places.{definition_places}
use Rattle.ocl.proofs.Means.{definition_type}
use Rattle.sheet.specs.Text.{Bytes}
use Rattle.sheet.specs.Sheet.{Rule, Sheet, schema_in}
use Rattle.sheet.specs.Reading.{Reading, accepted, rejected, read_text}
use Rattle.sheet.specs.Calls.{Verdict, refusal_at, on_sheet, typing_of, on_type, on_types, on_definitions, on_accepted}
use Rattle.sheet.specs.Laws.{ReadRefusal, over_length, at_line, AllTyped, none_typed, one_typed, Defined}
use Rattle.sheet.proofs.Acceptance.{accepted_good}
use Rattle.sheet.proofs.Listed.{listed_within, read_refusals}
use Rattle.sheet.proofs.Accepted.{on_accepted_lem}
use Rattle.sheet.proofs.Soundness.{type_refusals}
use Rattle.tables.specs.declared.Counts.{Counts}
use Rattle.tables.specs.Layout.{Kept}
use Rattle.tables.proofs.Tables.{kept_refl, kept_then}
use Rattle.reader.specs.Meanings.{EndsAs, a_sheet, a_refusal, ReadsTo}
use Rattle.rules.specs.Accepted.{Known, KnownTyped}
use Rattle.rules.specs.All.{AcceptsAs, refused as not-all, accepted as all_rules, Accepts}
use Rattle.sheet.proofs.LineNumbers.{node_line_low}
use Rattle.opening.specs.declared.Answer.{Answer}
use Rattle.opening.specs.Answers.{answer_of}
use Rattle.opening.specs.Parts.{ReadsText, OpensAs, opened, refused, AcceptsSheet, OpensText, GivesAnswer, GivesFor, Leaves}
use Rattle.opening.proofs.Answers.{gives_refusal}
use Rattle.std.specs.Prelude.{Result, Ok, Err}
use Rattle.memory.specs.Refusals.{number, at}
use Rattle.memory.specs.declared.refusals.Refusal.TheVariants.{LongSheet}
use Rattle.memory.specs.declared.refusals.Refused.{Refused}

-- ---- the text's length

pub long_text : (text : Bytes) (w0 w1 w2 : List ℕ) → 49152 < length text → ReadsText text (Err (at LongSheet 0)) w0 w1 w2 w0 w1 w2
unfolding read_text
long_text text w0 w1 w2 h = record { is = rw (lt-ltb 49152 (length text) h) a_refusal; kept0 = kept_refl w0; kept1 = kept_refl w1; kept2 = kept_refl w2 }

pub within_text : {r : Result Counts Refused} {w0 w1 w2 v0 v1 v2 : List ℕ} (text : Bytes) → length text ≤ 49152 → ReadsTo text r w0 w1 w2 v0 v1 v2 → ReadsText text r w0 w1 w2 v0 v1 v2
unfolding read_text
within_text text h t = record { is = rw (le-ltb 49152 (length text) h) t.is; kept0 = t.kept0; kept1 = t.kept1; kept2 = t.kept2 }

-- ---- a sheet that is read, and its definitions and rules typed

module _ {st : Counts} {w0 u1 u2 v1 v2 : List ℕ} {a : Result Unit Refused} (t : Accepts st w0 u1 u2 v1 v2 a) where
  pub accepts_sheet : a ≡ Ok tt → AcceptsSheet st w0 u1 u2 v1 v2 (Ok st)
  accepts_sheet e = record { is = λ text s q g. by text s q (rw e at (t.is s g)); kept1 = t.kept1; kept2 = t.kept2 }
    where
      by : (text : Bytes) (s : Sheet) → read_text text ≡ accepted s → AcceptsAs st w0 v1 v2 s (Ok tt) → OpensAs text w0 v1 v2 (Ok st)
      by text s q (all_rules ts h i) = opened s ts q h i

  pub accepts_none : {x : Refused} → a ≡ Err x → AcceptsSheet st w0 u1 u2 v1 v2 (Err x)
  unfolding on_accepted on_sheet
  accepts_none {x} e = record { is = λ text s q g. by text s q (rw e at (t.is s g)); kept1 = t.kept1; kept2 = t.kept2 }
    where
      by : (text : Bytes) (s : Sheet) → read_text text ≡ accepted s → AcceptsAs st w0 v1 v2 s (Err x) → OpensAs text w0 v1 v2 (Err x)
      by text s q (not-all h) = refused (λ f. rw q (h (f s)))

module _ {text : Bytes} {w0 w1 w2 v0 v1 v2 : List ℕ} {r : Result Counts Refused} (t : ReadsText text r w0 w1 w2 v0 v1 v2) where
  pub known_read : {st : Counts} → r ≡ Ok st → Known st v0 v1
  known_read {st} e = by (read_text text) refl (rw e at t.is)
    where
      by : (x : Reading) → read_text text ≡ x → EndsAs v0 v1 (Ok st) x → Known st v0 v1
      by x q (a_sheet {s = s} f g) = record { sheet = s; lies = record { good = accepted_good text s q; low = node_line_low text s q; fine = f; holds = g } }

  pub opens_sheet : {st : Counts} {x1 x2 : List ℕ} {z : Result Counts Refused} → r ≡ Ok st → AcceptsSheet st v0 v1 v2 x1 x2 z → OpensText text z w0 w1 w2 v0 x1 x2
  opens_sheet {st} {x1} {x2} {z} e d =
      record { is = by (read_text text) refl (rw e at t.is); kept0 = t.kept0; kept1 = kept_then t.kept1 d.kept1; kept2 = kept_then t.kept2 d.kept2 }
    where
      by : (x : Reading) → read_text text ≡ x → EndsAs v0 v1 (Ok st) x → OpensAs text v0 x1 x2 z
      by x q (a_sheet {s = s} f g) = d.is text s q (record { good = accepted_good text s q; low = node_line_low text s q; fine = f; holds = g })

  pub opens_none : {z : Refused} → r ≡ Err z → OpensText text (Err z) w0 w1 w2 v0 v1 v2
  unfolding on_accepted on_sheet
  opens_none {z} e = record { is = by (read_text text) refl (rw e at t.is); kept0 = t.kept0; kept1 = t.kept1; kept2 = t.kept2 }
    where
      by : (x : Reading) → read_text text ≡ x → EndsAs v0 v1 (Err z) x → OpensAs text v0 v1 v2 (Err z)
      by x q a_refusal = refused (λ f. rw q)

-- ---- after a text is opened

module _ {text : Bytes} {v0 v1 v2 : List ℕ} where
  known_as : {st : Counts} → OpensAs text v0 v1 v2 (Ok st) → KnownTyped st v0 v1 v2
  known_as (opened s ts q h i) = record { sheet = s; types = ts; accepted = h; waiting = i }

  gives_as : {st : Counts} {a : Answer} {before after : Bytes} (f : Sheet → List Ty → Verdict) → OpensAs text v0 v1 v2 (Ok st) → GivesFor st v0 v1 v2 f a before after
      → GivesAnswer (on_accepted text f) a before after
  gives_as f (opened s ts q h i) d = rw (on_accepted_lem text (record { sheet = s; is = q; defined = h.defined; typing = record { types = ts; all = h.typed } }) f) (d.for s ts h i)

  stops_as : {x : Refused} {a : Answer} (f : Sheet → List Ty → Verdict) (out : Bytes) → OpensAs text v0 v1 v2 (Err x) → a ≡ answer_of (refusal_at (number x.refusal) x.place)
      → GivesAnswer (on_accepted text f) a out out
  stops_as f out (refused {e = n} {k = k} h) e = rw (h f) (gives_refusal (number n) k out e)

module _ {text : Bytes} {w0 w1 w2 v0 v1 v2 : List ℕ} {r : Result Counts Refused} (t : OpensText text r w0 w1 w2 v0 v1 v2) where
  pub known_on : {st : Counts} → r ≡ Ok st → KnownTyped st v0 v1 v2
  known_on e = known_as (rw e at t.is)

  -- what follows may write to w1 and w2
  pub leaves_with : {st : Counts} {a : Answer} {x1 x2 : List ℕ} {out after : Bytes} (f : Sheet → List Ty → Verdict) → r ≡ Ok st
      → GivesFor st v0 v1 v2 f a out after → Kept v1 x1 → Kept v2 x2 → Leaves (on_accepted text f) a w0 w1 w2 out v0 x1 x2 after
  leaves_with f e d j k = record { gives = gives_as f (rw e at t.is) d; kept0 = t.kept0; kept1 = kept_then t.kept1 j; kept2 = kept_then t.kept2 k }

  pub leaves_on : {st : Counts} {a : Answer} {x2 : List ℕ} {out after : Bytes} (f : Sheet → List Ty → Verdict) → r ≡ Ok st
      → GivesFor st v0 v1 v2 f a out after → Kept v2 x2 → Leaves (on_accepted text f) a w0 w1 w2 out v0 v1 x2 after
  leaves_on f e d k = leaves_with f e d (kept_refl v1) k

  pub leaves_stop : {x : Refused} {a : Answer} (f : Sheet → List Ty → Verdict) (out : Bytes) → r ≡ Err x → a ≡ answer_of (refusal_at (number x.refusal) x.place)
      → Leaves (on_accepted text f) a w0 w1 w2 out v0 v1 v2 out
  leaves_stop f out e q = record { gives = stops_as f out (rw e at t.is) q; kept0 = t.kept0; kept1 = t.kept1; kept2 = t.kept2 }

-- ---- no call refuses with 1 once nothing is short

types_number : (s : Sheet) (xs : List Rule) (f : List Ty → Verdict) → ((ts : List Ty) → AllTyped s xs ts → (f ts).number ≢ 1)
    → ((r : ℕ) (x : Rule) → get_elem? xs r ≡ some x → (n p : ℕ) → (typing_of s x).answer ≡ untyped n p → n ≢ 1) → (on_types s xs f).number ≢ 1
unfolding on_types on_type refusal_at
types_number s [] f h g = h [] none_typed
types_number s (x ∷ xs) f h g = by (typing_of s x).answer refl (λ t e. types_number s xs (λ ts. f (t ∷ ts)) (λ ts k. h (t ∷ ts) (one_typed e k)) (λ r. g (suc r)))
  where
    by : (a : TypeAnswer) → (typing_of s x).answer ≡ a → ((t : Ty) → (typing_of s x).answer ≡ typed t → (on_types s xs (λ ts. f (t ∷ ts))).number ≢ 1)
        → (on_type s a (λ t. on_types s xs (λ ts. f (t ∷ ts)))).number ≢ 1
    by (typed t) e ih = ih t e
    by (untyped n p) e ih = g 0 x refl n p e

definitions_number : (s : Sheet) (ds : List Definition) (v : Verdict) → (Each (Defined s) ds → v.number ≢ 1) → (on_definitions s ds v).number ≢ 1
unfolding on_definitions on_type refusal_at
definitions_number s [] v h = h each_nil
definitions_number s (d ∷ ds) v h = by (type_definition (schema_in s) d).answer refl (λ q. definitions_number s ds v (λ k. h (each-cons q k)))
  where
    by : (a : TypeAnswer) → (type_definition (schema_in s) d).answer ≡ a → (Defined s d → (on_definitions s ds v).number ≢ 1) → (on_type s a (λ t. on_definitions s ds v)).number ≢ 1
    by (typed t) e ih = ih (record { typed_body = e ∙ ap typed (definition_type (schema_in s) d t e) })
    by (untyped n p) e ih = λ z. let l = (definition_places (schema_in s) d n p e).low in omega arith

pub accepted_number : (text : Bytes) (f : Sheet → List Ty → Verdict)
    → ((s : Sheet) (ts : List Ty) → read_text text ≡ accepted s → Each (Defined s) s.definitions → AllTyped s s.rules ts → (f s ts).number ≢ 1) → (on_accepted text f).number ≢ 1
unfolding on_accepted on_sheet refusal_at
accepted_number text f h = by (read_text text) refl
  where
    refusal_number : (n k : ℕ) → ReadRefusal text n k → n ≢ 1
    refusal_number n k (over_length a b) q = omega arith
    refusal_number n k (at_line a b c) q = let h = (listed_within n a).0 in omega arith

    by : (x : Reading) → read_text text ≡ x → (on_sheet x (λ s. on_definitions s s.definitions (on_types s s.rules (f s)))).number ≢ 1
    by (accepted s) e z =
        definitions_number s s.definitions (on_types s s.rules (f s))
        (λ d. types_number s s.rules (f s) (λ ts. h s ts e d) (λ r x q n p i z. omega (arith, (type_refusals text s e r x q n p i).low))) z
    by (rejected n k) e z = refusal_number n k (read_refusals text n k e) z
