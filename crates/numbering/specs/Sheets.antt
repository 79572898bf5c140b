-- What the code promises of a whole sheet that lies in the words. Document 02, F-12.
use Rattle.std.specs.Prelude.{◌≡◌, List, [], ◌++◌, ℕ, zero, suc, ◌+◌, ◌<◌, ◌≤◌, length, get_or, take, drop}
use Rattle.std.proofs.Math.Option.{none}
use Rattle.memory.specs.Map as memory
use Rattle.memory.specs.Codes as code
use Rattle.ocl.specs.Model.{Schema}
use Rattle.ocl.specs.Profile.{outside_rule}
use Rattle.sheet.specs.Sizes.{most_classes, most_rows, most_nodes, least_words}
use Rattle.sheet.specs.Sheet.{Sheet}
use Rattle.sheet.specs.Profile.{first_outside}
use Rattle.nodes.specs.Nodes.{word, tree_at}
use Rattle.judgements.specs.Replies.{ReadsRows}
use Rattle.tables.specs.declared.Counts.{Counts}
use Rattle.tables.specs.Layout.{Kept}
use Rattle.rules.specs.Accepted.{InWords}
use Rattle.numbering.specs.Lowest.{line_of, lowest_with}
use Rattle.numbering.specs.Forms.{called_at}
use Rattle.numbering.specs.Walk.{CallsTold, Finds}

-- so many classes and rows, and what is lent, are within the limits
pub record SheetRoom (classes rows tables nodes marks : ℕ) : Type 0 where
  pub in_classes : classes ≤ most_classes
  pub in_rows : rows ≤ most_rows
  pub all_tables : least_words ≤ tables
  pub all_nodes : least_words ≤ nodes
  pub all_marks : least_words ≤ marks

-- w1 has the nodes, and where the depths were what is found in each call's body
abbrev pub nodes_in : List ℕ → List ℕ
nodes_in w1 = take memory.nodes_end w1

abbrev pub least_in : List ℕ → List ℕ
least_in w1 = drop memory.depths w1

-- the types of the rules, which wait in w2 behind the marks, stay
pub record KeepsTypes (before after : List ℕ) : Type 0 where
  pub rest : drop most_nodes after ≡ drop most_nodes before
  pub size : length after ≡ length before

-- the tree at a root, for objects of the context class
pub record FindsRoot (w0 : List ℕ) (classes rows : ℕ) (w1 : List ℕ) (root context best : ℕ) (before after : List ℕ) (r : ℕ) : Type 0 where
  pub found : Finds (nodes_in w1) (least_in w1) (take classes w0) w0 rows root (λ k. outside_rule k context (tree_at (nodes_in w1) root)) best r
  pub kept : KeepsTypes before after

-- the body that node n calls, if it calls one, once those before it have been looked at
pub record FindsCalled (w0 : List ℕ) (classes rows : ℕ) (w1 : List ℕ) (n : ℕ) (before after : List ℕ) (r : ℕ) : Type 0 where
  pub found : (k : Schema) → ReadsRows (take classes w0) w0 rows k → CallsTold (nodes_in w1) (least_in w1) k n → word (nodes_in w1) n 0 ≡ code.call
      → line_of (nodes_in w1) r ≡ lowest_with (nodes_in w1) none (called_at k (nodes_in w1) n)
  pub kept : KeepsTypes before after

-- what is found in the body of each call is put into w1, which was u1 and is v1
pub record TellsCalls (st : Counts) (w0 u1 v1 before after : List ℕ) : Type 0 where
  pub told : (k : Schema) → ReadsRows (take st.classes w0) w0 st.rows k → CallsTold (nodes_in v1) (least_in v1) k most_nodes
  pub nodes : nodes_in v1 ≡ nodes_in u1
  pub kept1 : Kept u1 v1
  pub kept : KeepsTypes before after

-- each rule has its root among the nodes, and its class is a byte
pub record RootsIn (st : Counts) (w0 : List ℕ) : Type 0 where
  pub root : (r : ℕ) → r < st.rules → get_or w0 (memory.roots + r) 0 < most_nodes
  pub context : (r : ℕ) → r < st.rules → get_or w0 (memory.contexts + r) 0 < 256

-- the nodes outside of c rules from number i on
unfoldable pub rules_at : Schema → List ℕ → List ℕ → ℕ → ℕ → List ℕ
rules_at k w0 t zero i = []
rules_at k w0 t (suc c) i = outside_rule k (get_or w0 (memory.contexts + i) 0) (tree_at t (get_or w0 (memory.roots + i) 0)) ++ rules_at k w0 t c (i + 1)

-- all rules
pub record FindsRules (st : Counts) (w0 w1 before after : List ℕ) (r : ℕ) : Type 0 where
  pub found : (k : Schema) → ReadsRows (take st.classes w0) w0 st.rows k → CallsTold (nodes_in w1) (least_in w1) k most_nodes
      → line_of (nodes_in w1) r ≡ lowest_with (nodes_in w1) none (rules_at k w0 (nodes_in w1) st.rules 0)
  pub kept : KeepsTypes before after

-- "the lowest line of such a node", of a sheet that lies in the words
pub record FindsOutside (st : Counts) (w0 u1 v1 before after : List ℕ) (r : ℕ) : Type 0 where
  pub is : (s : Sheet) → InWords st w0 u1 s → line_of v1 r ≡ first_outside s
  pub kept1 : Kept u1 v1
  pub kept : KeepsTypes before after
