-- The typing of a rule and of a definition, whose marks are added to a table. Document 01, Calls; document 02, F-13.
use Rattle.std.specs.Prelude.{◌≡◌, List, ℕ, ◌≤◌, length, take, drop, Result}
use Rattle.memory.specs.Map as memory
use Rattle.ocl.specs.Model.{Schema}
use Rattle.ocl.specs.Forms.{Definition}
use Rattle.ocl.specs.Typing.{type_rule, type_definition}
use Rattle.sheet.specs.Sizes.{most_classes, most_rows, most_nodes}
use Rattle.types.specs.Word.{type_in}
use Rattle.nodes.specs.Nodes.{tree_at}
use Rattle.judgements.specs.Replies.{meaning, write_marks, ReadsRows}
use Rattle.memory.specs.declared.refusals.Refused.{Refused}
use Rattle.types.specs.declared.FlatType.{FlatType}

-- so many classes and rows, and what is lent, are within the limits
pub record LentTables (classes rows tables nodes marks : ℕ) : Type 0 where
  pub in_classes : classes ≤ most_classes
  pub in_rows : rows ≤ most_rows
  pub in_tables : memory.rows_end ≤ tables
  pub all_nodes : memory.nodes_end ≤ nodes
  pub all_marks : most_nodes ≤ marks

-- the rule with its context class and its root: for every schema that the tables hold, the answer, and its marks added to the first 768
-- words, while the others are as they were
pub record TypesRule (tables : List ℕ) (classes rows : ℕ) (nodes : List ℕ) (context root : ℕ) (before after : List ℕ) (r : Result FlatType Refused) : Type 0 where
  pub is : (k : Schema) → ReadsRows (take classes tables) tables rows k → meaning r ≡ (type_rule k context (tree_at nodes root)).answer
  pub marked : (k : Schema) → ReadsRows (take classes tables) tables rows k
      → take most_nodes after ≡ write_marks (take most_nodes before) (type_rule k context (tree_at nodes root)).marks
  pub rest : drop most_nodes after ≡ drop most_nodes before
  pub size : length after ≡ length before

-- the definition with its class, the word of its type and its root
abbrev pub definition_at : List ℕ → ℕ → ℕ → ℕ → Definition
definition_at nodes context declared root = record { context = context; type = type_in declared; body = tree_at nodes root }

-- and its typing, in the same way
pub record TypesDefinition (tables : List ℕ) (classes rows : ℕ) (nodes : List ℕ) (context declared root : ℕ) (before after : List ℕ) (r : Result FlatType Refused) : Type 0 where
  pub is : (k : Schema) → ReadsRows (take classes tables) tables rows k → meaning r ≡ (type_definition k (definition_at nodes context declared root)).answer
  pub marked : (k : Schema) → ReadsRows (take classes tables) tables rows k
      → take most_nodes after ≡ write_marks (take most_nodes before) (type_definition k (definition_at nodes context declared root)).marks
  pub rest : drop most_nodes after ≡ drop most_nodes before
  pub size : length after ≡ length before
