-- A sheet in the lent words, read and then typed, and what typing and evaluation find there (proofs/Ready.antt: it follows).
use Rattle.std.specs.Prelude.{◌≡◌, List, ℕ, ◌+◌, ◌≤◌, ◌<◌, get_or, take}
use Rattle.std.proofs.Math.Option.{none, some}
use Rattle.std.proofs.Math.ListN.{get_elem?}
use Rattle.laws.specs.Lists.{Each}
use Rattle.memory.specs.Map as memory
use Rattle.ocl.specs.Types.{Ty}
use Rattle.ocl.specs.Forms.{Definition, levels}
use Rattle.ocl.specs.Typing.{refused as untyped, type_definition}
use Rattle.sheet.specs.Sizes.{most_bytes, most_classes, most_nodes}
use Rattle.sheet.specs.Sheet.{Rule, Sheet, schema_in, model_of, most_levels}
use Rattle.sheet.specs.Calls.{typing_of, marks_of}
use Rattle.sheet.specs.Laws.{AllTyped, Defined}
use Rattle.sheet.proofs.Good.{Good}
use Rattle.types.specs.Word.{type_in}
use Rattle.nodes.specs.Nodes.{word, tree_at}
use Rattle.nodes.specs.Marks.{mark_word, Marked}
use Rattle.tables.specs.declared.Counts.{Counts}
use Rattle.tables.specs.Layout.{Holds, Fine}
use Rattle.tables.specs.Stored.{HoldsModel}
use Rattle.judgements.specs.Replies.{ReadsRows as TypingReads}
use Rattle.outcomes.specs.Tables.{Plain}

-- a sheet lies in the words, which has what every sheet has that is read: that of a text, or one with edits made (document 02, F-10)
pub record InWords (st : Counts) (w0 w1 : List ℕ) (s : Sheet) : Type 0 where
  pub good : Good s
  -- each node's line is one of a text's, which has at most 49,153
  pub low : (p : ℕ) → get_or s.lines p 0 ≤ most_bytes + 1
  pub fine : Fine st
  pub holds : Holds st w0 w1 s

-- some sheet does
pub record Known (st : Counts) (w0 w1 : List ℕ) : Type 0 where
  pub sheet : Sheet
  pub lies : InWords st w0 w1 sheet

-- the marks of a sheet's nodes are in w1
pub record MarksIn (w1 : List ℕ) (s : Sheet) : Type 0 where
  pub at : (p : ℕ) → p < most_nodes → get_or w1 (memory.marks + p) 0 ≡ mark_word (marks_of s p)

-- a sheet is accepted only if all its definitions and rules type (document 02, F-6 and F-13): it lies in the words with its marks, and its
-- rules have the types ts
pub record Accepted (st : Counts) (w0 w1 : List ℕ) (s : Sheet) (ts : List Ty) : Type 0 where
  pub lies : InWords st w0 w1 s
  pub defined : Each (Defined s) s.definitions
  pub typed : AllTyped s s.rules ts
  pub marks : MarksIn w1 s

-- the rules' types wait in w2, as words
pub record TypesIn (w2 : List ℕ) (ts : List Ty) : Type 0 where
  pub at : (r : ℕ) (t : Ty) → get_elem? ts r ≡ some t → type_in (get_or w2 (memory.rule_types + r) 0) ≡ t

-- some sheet is accepted
pub record KnownTyped (st : Counts) (w0 w1 w2 : List ℕ) : Type 0 where
  pub sheet : Sheet
  pub types : List Ty
  pub accepted : Accepted st w0 w1 sheet types
  pub waiting : TypesIn w2 types

-- ---- what follows

-- definition d's class, its type's word and its root
pub record DefinitionIn (w0 w1 : List ℕ) (d : ℕ) (x : Definition) : Type 0 where
  pub context : get_or w0 (memory.definition_contexts + d) 0 ≡ x.context
  pub type : type_in (get_or w0 (memory.definition_types + d) 0) ≡ x.type
  pub body : tree_at w1 (get_or w0 (memory.definition_roots + d) 0) ≡ x.body
  pub root : get_or w0 (memory.definition_roots + d) 0 < most_nodes
  pub low_context : x.context < most_classes

-- rule r's context class and its root
pub record RuleIn (w0 w1 : List ℕ) (r : ℕ) (x : Rule) : Type 0 where
  pub context : get_or w0 (memory.contexts + r) 0 ≡ x.context
  pub body : tree_at w1 (get_or w0 (memory.roots + r) 0) ≡ x.body
  pub root : get_or w0 (memory.roots + r) 0 < most_nodes
  pub shallow : levels x.body ≤ most_levels
  pub low_context : x.context < most_classes

pub record Ready (st : Counts) (w0 w1 : List ℕ) (s : Sheet) : Type 0 where
  -- classes and rows, for typing
  pub classes : TypingReads (take st.classes w0) w0 st.rows (schema_in s)
  -- objects and values, for evaluation
  pub model : HoldsModel st w0 (model_of s)
  pub plain : Plain st (model_of s)
  -- there are st.definitions definitions, each where it is looked for
  pub definition : (d : ℕ) (x : Definition) → get_elem? s.definitions d ≡ some x → DefinitionIn w0 w1 d x
  pub some_definition : (d : ℕ) → d < st.definitions → (x : Definition) × (get_elem? s.definitions d ≡ some x)
  -- there are st.rules rules, each where it is looked for
  pub rule : (r : ℕ) (x : Rule) → get_elem? s.rules r ≡ some x → RuleIn w0 w1 r x
  pub some_rule : (r : ℕ) → r < st.rules → (x : Rule) × (get_elem? s.rules r ≡ some x)
  pub no_rule : (r : ℕ) → st.rules ≤ r → get_elem? s.rules r ≡ none
  -- a refusal of typing is at a node, whose line is its word 7
  pub place : (r : ℕ) (x : Rule) (n p : ℕ) → get_elem? s.rules r ≡ some x → (typing_of s x).answer ≡ untyped n p
      → (p < most_nodes) × (get_or s.lines p 0 ≡ word w1 p 7)
  pub definition_place : (d : ℕ) (x : Definition) (n p : ℕ) → get_elem? s.definitions d ≡ some x → (type_definition (schema_in s) x).answer ≡ untyped n p
      → (p < most_nodes) × (get_or s.lines p 0 ≡ word w1 p 7)
  -- the word of each mark tells what evaluation reads
  pub mark : (p : ℕ) → Marked (mark_word (marks_of s p)) (marks_of s p)
