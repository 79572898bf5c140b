-- The call that holds a sheet to the free-numbering profile. Assumes nothing.
use mathlib.Core.Path.{◌≡◌, sym, ap, ◌∙◌}
use mathlib.Core.Logic.{◌≢◌}
use mathlib.Core.Option.{Option, none, some}
use mathlib.Core.List.{List}
use Prim.Native.Nat.{ℕ, ◌≤◌, ◌<◌}
use native.Mathlib.Omega.{arith}
use lib.ListN.{get_or, drop}
use lib.Seq.{drop-drop, get_or-drop}
use Rattle.ocl.specs.Types.{Ty}
use Rattle.sheet.specs.Text.{Bytes}
use Rattle.sheet.specs.Calls.{Verdict, answer, refusal_at, type_lines}
use Rattle.sheet.specs.Profile.{first_outside, on_profile, profile_of}
use Rattle.nodes.specs.Nodes.{word}
use Rattle.types.specs.Word.{type_in}
use Rattle.tables.specs.declared.Counts.{Counts}
use Rattle.tables.specs.Layout.{Kept}
use Rattle.rules.specs.Accepted.{TypesIn}
use Rattle.numbering.specs.Sheets.{KeepsTypes, FindsOutside}
use Rattle.numbering.proofs.Lowest.{line_there, line_none}
use Rattle.opening.specs.declared.Answer.{Answer}
use Rattle.opening.specs.Answers.{answer_of}
use Rattle.opening.specs.Parts.{OpensText, GivesFor, Leaves, written_to}
use Rattle.answering.specs.TypeLines.{Waiting, PutsTypes, profiled}
use Rattle.opening.proofs.Answers.{gives_refusal, gives_written}
use Rattle.opening.proofs.Readings.{leaves_with, leaves_stop, accepted_number}
use Rattle.answering.proofs.ReadCalls.{rule_count}
use Rattle.std.specs.Prelude.{Result, Ok, Err}
use Rattle.memory.specs.Refusals.{number}
use Rattle.memory.specs.declared.refusals.Refused.{Refused}

-- ---- the types wait on

types_stay : {u v : List ℕ} {ts : List Ty} → KeepsTypes u v → TypesIn u ts → TypesIn v ts
types_stay {u} {v} k i = record {
  at = λ r t e. ap type_in (sym (get_or-drop 768 v r 0) ∙ ap (λ (l : List ℕ). get_or l r 0) k.rest ∙ get_or-drop 768 u r 0) ∙ i.at r t e;
}

pub still_waiting : {u v : List ℕ} {n m : ℕ} → KeepsTypes u v → m ≡ n → Waiting u n → Waiting v m
still_waiting k e w = record {
  types = w.types;
  waiting = types_stay k w.waiting;
  count = w.count ∙ sym e;
  few = let f = w.few in omega arith;
  short = w.short;
}

pub types_kept : {u v : List ℕ} → KeepsTypes u v → Kept u v
types_kept {u} {v} k = record { size = k.size; rest = sym (drop-drop 7424 768 v) ∙ ap (drop 7424) k.rest ∙ drop-drop 7424 768 u }

-- ---- on an accepted sheet

module _ {st : Counts} {w0 u1 v1 u2 v2 : List ℕ} {p : ℕ} (f : FindsOutside st w0 u1 v1 u2 v2 p) where
  pub outside_given : {a : Answer} {k : ℕ} (out : Bytes) → p < 768 → k ≡ word v1 p 7 → a ≡ answer_of (refusal_at 22 k) → GivesFor st w0 u1 u2 profiled a out out
  unfolding on_profile
  outside_given {k = k} out h e q = record {
    for = λ s ts g i. let z : first_outside s ≡ some k = sym (f.is s g.lies) ∙ line_there v1 p h ∙ ap some (sym e) in rw z (gives_refusal 22 k out q);
  }

  pub within_given : {a : Answer} {n end : ℕ} {out after : Bytes} → 768 ≤ p → n ≡ st.rules → PutsTypes v2 n out after end → a ≡ written_to end 0 → GivesFor st w0 u1 u2 profiled a out after
  unfolding on_profile answer
  within_given h c d q = record {
    for = λ s ts g i. let z : first_outside s ≡ none = sym (f.is s g.lies) ∙ line_none v1 p h in rw z (gives_written (d.is ts (types_stay f.kept i) (rule_count g c)) q);
  }

-- ---- after a text is opened

module _ {text : Bytes} {w0 w1 w2 v0 v1 v2 : List ℕ} {z : Result Counts Refused} {a : Answer} (t : OpensText text z w0 w1 w2 v0 v1 v2) where
  pub profile_given : {st : Counts} {x1 x2 : List ℕ} {out after : Bytes} → z ≡ Ok st → GivesFor st v0 v1 v2 profiled a out after × Kept v1 x1 × Kept v2 x2
      → Leaves (profile_of text) a w0 w1 w2 out v0 x1 x2 after
  unfolding profile_of
  profile_given e (g, j, k) = leaves_with t profiled e g j k

  pub profile_stopped : {x : Refused} (out : Bytes) → z ≡ Err x → a ≡ answer_of (refusal_at (number x.refusal) x.place) → Leaves (profile_of text) a w0 w1 w2 out v0 v1 v2 out
  unfolding profile_of
  profile_stopped out e q = leaves_stop t profiled out e q

-- ---- the call does not refuse with 1 once nothing is short

profiled_number : (o : Option ℕ) (v : Verdict) → v.number ≢ 1 → (on_profile o v).number ≢ 1
unfolding on_profile refusal_at
profiled_number none v h = h
profiled_number (some k) v h = λ q. omega arith

pub profile_number : (text : Bytes) → (profile_of text).number ≢ 1
unfolding profile_of answer
profile_number text = accepted_number text profiled (λ s ts e d h. profiled_number (first_outside s) (answer (type_lines ts)) (λ q. omega arith))
