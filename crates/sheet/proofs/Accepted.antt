-- What an accepted text has: a sheet that is read, definitions of their types, and a type for each of its rules. Assumes nothing.
use mathlib.Core.Path.{◌≡◌, refl, sym, ap, ◌∙◌}
use mathlib.Core.Logic.{◌≢◌, ◌⊎◌, inl, inr}
use mathlib.Core.List.{List, [], ◌∷◌}
use Prim.Native.Nat.{ℕ, ◌≤◌}
use native.Mathlib.Omega.{arith}
use lib.ListN.{get_or}
use Rattle.laws.specs.Lists.{Each, each_nil, each-cons}
use Rattle.ocl.specs.Types.{Ty, Class}
use Rattle.ocl.specs.Forms.{Definition}
use Rattle.ocl.specs.Environment.{start}
use Rattle.ocl.specs.Typing.{Answer, typed, refused, type_rule, type_definition}
use Rattle.ocl.proofs.Places.{typing_places, definition_places}
use Rattle.ocl.proofs.Means.{definition_type}
use Rattle.sheet.specs.Text.{Bytes}
use Rattle.sheet.specs.Sheet.{Rule, Sheet, schema_in}
use Rattle.sheet.specs.Reading.{Reading, accepted, rejected, read_text}
use Rattle.sheet.specs.Calls.{Verdict, refusal_at, on_sheet, typing_of, on_type, on_types, on_definitions, on_accepted}
use Rattle.sheet.specs.Laws.{ReadRefusal, over_length, at_line, AllTyped, none_typed, one_typed, Defined}
use Rattle.sheet.proofs.Listed.{listed_within, read_refusals}

-- ---- the types of the rules

pub record Types (s : Sheet) (xs : List Rule) : Type 0 where
  pub types : List Ty
  pub all : AllTyped s xs types

-- refused with one verdict, whatever would follow
pub record Refused {F : Type 0} (on : F → Verdict) : Type 0 where
  pub verdict : Verdict
  pub no_answer : verdict.number ≢ 0
  pub always : (f : F) → on f ≡ verdict

-- a number that is none
no_number : (n : ℕ) → 1 ≤ n → n ≢ 0
no_number n h e = omega arith

rule_number : (s : Sheet) (x : Rule) (n p : ℕ) → (typing_of s x).answer ≡ refused n p → 1 ≤ n
unfolding typing_of type_rule
rule_number s x n p e = let k = ((typing_places (schema_in s) x.body (start (Class x.context))).refusals n p e).low in omega arith

types_or : (s : Sheet) (xs : List Rule) → Refused (on_types s xs) ⊎ Types s xs
unfolding on_types on_type refusal_at
types_or s [] = inr (record { types = []; all = none_typed })
types_or s (x ∷ xs) = by (typing_of s x).answer refl (types_or s xs)
  where
    by : (a : Answer) → (typing_of s x).answer ≡ a → Refused (on_types s xs) ⊎ Types s xs → Refused (on_types s (x ∷ xs)) ⊎ Types s (x ∷ xs)
    by (typed t) q (inl r) = inl (record { verdict = r.verdict; no_answer = r.no_answer; always = λ f. rw q (r.always (λ ts. f (t ∷ ts))) })
    by (typed t) q (inr h) = inr (record { types = t ∷ h.types; all = one_typed q h.all })
    by (refused n p) q g = inl (record { verdict = refusal_at n (get_or s.lines p 0); no_answer = no_number n (rule_number s x n p q); always = λ f. rw q refl })

pub on_typed : {s : Sheet} {xs : List Rule} {ts : List Ty} → AllTyped s xs ts → (f : List Ty → Verdict) → on_types s xs f ≡ f ts
unfolding on_types on_type
on_typed none_typed f = refl
on_typed (one_typed q h) f = rw q (on_typed h _)

-- ---- the definitions

defined_or : (s : Sheet) (ds : List Definition) → Refused (on_definitions s ds) ⊎ Each (Defined s) ds
unfolding on_definitions on_type refusal_at
defined_or s [] = inr each_nil
defined_or s (d ∷ ds) = by (type_definition (schema_in s) d).answer refl (defined_or s ds)
  where
    by : (a : Answer) → (type_definition (schema_in s) d).answer ≡ a → Refused (on_definitions s ds) ⊎ Each (Defined s) ds → Refused (on_definitions s (d ∷ ds)) ⊎ Each (Defined s) (d ∷ ds)
    by (typed t) q (inl r) = inl (record { verdict = r.verdict; no_answer = r.no_answer; always = λ v. rw q (r.always v) })
    by (typed t) q (inr h) = inr (each-cons (record { typed_body = q ∙ ap typed (definition_type (schema_in s) d t q) }) h)
    by (refused n p) q g =
        inl (record { verdict = refusal_at n (get_or s.lines p 0); no_answer = no_number n (let k = (definition_places (schema_in s) d n p q).low in omega arith); always = λ v. rw q refl })

pub on_defined : {s : Sheet} {ds : List Definition} → Each (Defined s) ds → (v : Verdict) → on_definitions s ds v ≡ v
unfolding on_definitions on_type
on_defined each_nil v = refl
on_defined (each-cons q h) v = rw q.typed_body (on_defined h v)

-- ---- the text

-- a refusal of reading has a number
read_number : (text : Bytes) (n k : ℕ) → read_text text ≡ rejected n k → 1 ≤ n
read_number text n k e = by (read_refusals text n k e)
  where
    by : ReadRefusal text n k → 1 ≤ n
    by (over_length a b) = omega arith
    by (at_line a b c) = let h = (listed_within n a).0 in omega arith

pub record AcceptedSheet (text : Bytes) : Type 0 where
  pub sheet : Sheet
  pub is : read_text text ≡ accepted sheet
  pub defined : Each (Defined sheet) sheet.definitions
  pub typing : Types sheet sheet.rules

pub refused_or : (text : Bytes) → Refused (on_accepted text) ⊎ AcceptedSheet text
unfolding on_accepted on_sheet refusal_at
refused_or text = by (read_text text) refl
  where
    typed_or : (s : Sheet) → read_text text ≡ accepted s → Refused (on_definitions s s.definitions) ⊎ Each (Defined s) s.definitions → Refused (on_types s s.rules) ⊎ Types s s.rules
        → Refused (on_accepted text) ⊎ AcceptedSheet text
    typed_or s q (inl r) g = inl (record { verdict = r.verdict; no_answer = r.no_answer; always = λ f. rw q (r.always (on_types s s.rules (f s))) })
    typed_or s q (inr h) (inl r) = inl (record { verdict = r.verdict; no_answer = r.no_answer; always = λ f. rw q (on_defined h (on_types s s.rules (f s)) ∙ r.always (f s)) })
    typed_or s q (inr h) (inr g) = inr (record { sheet = s; is = q; defined = h; typing = g })

    by : (x : Reading) → read_text text ≡ x → Refused (on_accepted text) ⊎ AcceptedSheet text
    by (accepted s) q = typed_or s q (defined_or s s.definitions) (types_or s s.rules)
    by (rejected n k) q = inl (record { verdict = refusal_at n k; no_answer = no_number n (read_number text n k q); always = λ f. rw q refl })

-- whatever follows, where it comes to 0
pub accepted_of : (text : Bytes) (f : Sheet → List Ty → Verdict) → (on_accepted text f).number ≡ 0 → AcceptedSheet text
accepted_of text f e = by (refused_or text)
  where
    by : Refused (on_accepted text) ⊎ AcceptedSheet text → AcceptedSheet text
    by (inl r) = absurd (r.no_answer (ap (λ v. v.number) (sym (r.always f)) ∙ e))
    by (inr a) = a

pub on_accepted_lem : (text : Bytes) (a : AcceptedSheet text) (f : Sheet → List Ty → Verdict) → on_accepted text f ≡ f a.sheet a.typing.types
unfolding on_accepted on_sheet
on_accepted_lem text a f = rw a.is (on_defined a.defined _ ∙ on_typed a.typing.all (f a.sheet))
