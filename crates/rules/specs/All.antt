-- What the code promises of all definitions and all rules typed in order.
use Rattle.std.specs.Prelude.{◌≡◌, List, ◌++◌, ℕ, ◌+◌, ◌<◌, length, get_or, take, drop, replicate, Result, Ok, Err}
use Rattle.laws.specs.Lists.{Each}
use Rattle.memory.specs.Map as memory
use Rattle.ocl.specs.Types.{Ty}
use Rattle.sheet.specs.Sizes.{most_nodes}
use Rattle.sheet.specs.Sheet.{Sheet, schema_in}
use Rattle.sheet.specs.Calls.{Verdict, refusal_at, on_types, on_definitions, definition_marks, rule_marks}
use Rattle.sheet.specs.Laws.{AllTyped, Defined}
use Rattle.tables.specs.declared.Counts.{Counts}
use Rattle.tables.specs.Layout.{Kept}
use Rattle.judgements.specs.Replies.{write_marks}
use Rattle.rules.specs.Accepted.{InWords, Accepted, TypesIn}
use Rattle.memory.specs.Refusals.{at, number}
use Rattle.memory.specs.declared.refusals.Refused.{Refused}
use Rattle.memory.specs.declared.refusals.Refusal.{Refusal}

-- the words of all marks are 0, and the others are as they were
abbrev pub cleared_marks : List ℕ → List ℕ
cleared_marks w = replicate most_nodes 0 ++ drop most_nodes w

-- whatever follows the definitions, the first refusal of one is the answer
abbrev pub RefusesDefinition : Sheet → ℕ → ℕ → Type 0
RefusesDefinition s n k = (v : Verdict) → on_definitions s s.definitions v ≡ refusal_at n k

-- whatever follows the rules' types, the first refusal of one is the answer
abbrev pub RefusesRule : Sheet → ℕ → ℕ → Type 0
RefusesRule s n k = (f : List Ty → Verdict) → on_types s s.rules f ≡ refusal_at n k

-- and of both, definitions before rules (document 02, F-13)
abbrev pub Refuses : Sheet → ℕ → ℕ → Type 0
Refuses s n k = (f : List Ty → Verdict) → on_definitions s s.definitions (on_types s s.rules f) ≡ refusal_at n k

-- the first refusal; or the marks of all definitions in w2
pub data DefinesAs (s : Sheet) (before after : List ℕ) : Result Unit Refused → Type 0 where
  not_defined : {e : Refusal} {k : ℕ} → RefusesDefinition s (number e) k → DefinesAs s before after (Err (at e k))
  all_defined : Each (Defined s) s.definitions → take most_nodes after ≡ write_marks (take most_nodes before) (definition_marks (schema_in s) s.definitions)
      → DefinesAs s before after (Ok tt)

pub record DefinesAll (st : Counts) (w0 w1 before after : List ℕ) (r : Result Unit Refused) : Type 0 where
  pub is : (s : Sheet) → InWords st w0 w1 s → DefinesAs s before after r
  pub kept : Kept before after

-- the first refusal; or the types in w2, and the marks of all rules before them
pub data TypesAs (s : Sheet) (before after : List ℕ) : Result Unit Refused → Type 0 where
  a_refusal : {e : Refusal} {k : ℕ} → RefusesRule s (number e) k → TypesAs s before after (Err (at e k))
  all_typed : (ts : List Ty) → AllTyped s s.rules ts → TypesIn after ts
      → take most_nodes after ≡ write_marks (take most_nodes before) (rule_marks (schema_in s) s.rules) → TypesAs s before after (Ok tt)

pub record TypesAll (st : Counts) (w0 w1 before after : List ℕ) (r : Result Unit Refused) : Type 0 where
  pub is : (s : Sheet) → InWords st w0 w1 s → TypesAs s before after r
  pub kept : Kept before after

-- the marks in w2 are put into w1
pub record KeepsMarks (w2 before after : List ℕ) : Type 0 where
  pub at : (p : ℕ) → p < most_nodes → get_or after (memory.marks + p) 0 ≡ get_or w2 p 0
  pub below : take memory.nodes_end after ≡ take memory.nodes_end before
  pub above : drop memory.depths after ≡ drop memory.depths before
  pub size : length after ≡ length before

-- the first refusal; or the sheet is accepted, and its rules' types wait in w2
pub data AcceptsAs (st : Counts) (w0 v1 v2 : List ℕ) (s : Sheet) : Result Unit Refused → Type 0 where
  refused : {e : Refusal} {k : ℕ} → Refuses s (number e) k → AcceptsAs st w0 v1 v2 s (Err (at e k))
  accepted : (ts : List Ty) → Accepted st w0 v1 s ts → TypesIn v2 ts → AcceptsAs st w0 v1 v2 s (Ok tt)

-- w1 and w2 were u1 and u2, and are v1 and v2
pub record Accepts (st : Counts) (w0 u1 u2 v1 v2 : List ℕ) (r : Result Unit Refused) : Type 0 where
  pub is : (s : Sheet) → InWords st w0 u1 s → AcceptsAs st w0 v1 v2 s r
  pub kept1 : Kept u1 v1
  pub kept2 : Kept u2 v2
