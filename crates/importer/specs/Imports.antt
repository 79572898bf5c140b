-- What the importer promises of a whole text: that it is no sentence, or its nodes, unless there are too many of them.
use Rattle.std.specs.Prelude.{◌≡◌, false, List, ℕ, ◌≤◌, length, Option as Optional, Some, None}
use Rattle.std.proofs.Math.Option.{some}
use Rattle.sheet.specs.Sizes.{most_nodes}
use Rattle.sheet.specs.Text.{Bytes}
use Rattle.sheet.specs.Texts.{is_sentence}
use Rattle.sheet.specs.Grammar.Trees.{Tree, count, shapes}
use Rattle.sheet.specs.Grammar.Parser.{reading_of}
use Rattle.tables.specs.Layout.{Kept}
use Rattle.emission.specs.Nodes.{HoldsNodes}

-- a sentence of tree x and n nodes, whose line is k
pub record SentenceIs (k : ℕ) (s : Bytes) (n : ℕ) (after : List ℕ) : Type 0 where
  pub tree : Tree
  pub reading : reading_of s ≡ some tree
  pub counted : n ≡ count tree
  pub few : n ≤ length s
  pub nodes : n ≤ most_nodes → HoldsNodes k (shapes tree 0) after

pub data ImportedAs (k : ℕ) (s : Bytes) (after : List ℕ) : Optional ℕ → Type 0 where
  no_sentence : is_sentence s ≡ false → ImportedAs k s after None
  a_sentence : {n : ℕ} → SentenceIs k s n after → ImportedAs k s after (Some n)

pub record Imports (k : ℕ) (s : Bytes) (before : List ℕ) (r : Optional ℕ) (after : List ℕ) : Type 0 where
  pub is : ImportedAs k s after r
  pub kept : Kept before after
