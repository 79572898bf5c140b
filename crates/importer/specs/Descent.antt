-- What the descent promises, by crates/sheet's `parse`.
use Rattle.std.specs.Prelude.{◌≡◌, List, ◌++◌, ℕ, ◌+◌, ◌≤◌, ◌<◌, length, Option as Optional, Some, None}
use Rattle.std.proofs.Math.Option.{none, some}
use Rattle.laws.specs.Choice.{on_some, map_some}
use Rattle.sheet.specs.Sizes.{least_words, most_nodes}
use Rattle.sheet.specs.Text.{Bytes}
use Rattle.sheet.specs.Lines.{Shape}
use Rattle.sheet.specs.Grammar.Tokens.{Tokens}
use Rattle.sheet.specs.Grammar.Trees.{Tree, count, shapes}
use Rattle.sheet.specs.Grammar.Sentences.{Level, whole}
use Rattle.sheet.specs.Grammar.Parser as parser
use Rattle.tables.specs.Layout.{Kept}
use Rattle.tokens.specs.declared.Token.{Token}
use Rattle.tokens.specs.Codes.{after_code}
use Rattle.tokens.specs.Meanings.{onward, Ahead}
use Rattle.emission.specs.Nodes.{HoldsNodes}
use Rattle.importer.specs.Lets.{SameLets}
use Rattle.importer.specs.Answers.{Answers}

-- there are no more nodes, n, and open `let`s, d, than bytes before t
pub record Room (s : Bytes) (t : Token) (n d : ℕ) (w : List ℕ) : Type 0 where
  pub ahead : Ahead s t
  pub few : n + d ≤ t.start
  pub long : least_words ≤ length w

-- the tree x was read after n nodes, inside d `let`s: its nodes follow them, unless there are too many
pub record Wrote (k : ℕ) (x : Tree) (n d : ℕ) (before after : List ℕ) : Type 0 where
  pub nodes : n + d + count x ≤ most_nodes → (xs : List Shape) → length xs ≡ n → HoldsNodes k xs before → HoldsNodes k (xs ++ shapes x n) after
  pub lets : SameLets d before after
  pub kept : Kept before after

pub record FoundOne (l : Level) (k : ℕ) (s : Bytes) (t : Token) (n d : ℕ) (before : List ℕ) (u : Token) (m : ℕ) (after : List ℕ) : Type 0 where
  pub tree : Tree
  pub answers : Answers l (onward s t) (some (tree, onward s u))
  pub ahead : Ahead s u
  pub counted : m ≡ n + count tree
  pub from : t.start + count tree ≤ u.start
  pub wrote : Wrote k tree n d before after

-- what was found at t on a level, the line being k
pub data FoundAt (l : Level) (k : ℕ) (s : Bytes) (t : Token) (n d : ℕ) (before : List ℕ) : Optional (Token × ℕ) → List ℕ → Type 0 where
  found_none : {after : List ℕ} → Answers l (onward s t) none → Kept before after → FoundAt l k s t n d before None after
  found_one : {u : Token} {m : ℕ} {after : List ℕ} → FoundOne l k s t n d before u m after → FoundAt l k s t n d before (Some (u, m)) after

-- a whole expression, and a token of this code after it
unfoldable pub closed_by : ℕ → parser.Found → parser.Found
closed_by code o = on_some o (λ x. map_some (λ r. (x.0, r)) (after_code code x.1))

pub record ClosedOne (code k : ℕ) (s : Bytes) (t : Token) (n d : ℕ) (before : List ℕ) (u : Token) (m : ℕ) (after : List ℕ) : Type 0 where
  pub tree : Tree
  pub rest : Tokens
  pub answers : Answers whole (onward s t) (some (tree, rest))
  pub closes : after_code code rest ≡ some (onward s u)
  pub ahead : Ahead s u
  pub counted : m ≡ n + count tree
  pub from : t.start + count tree < u.start
  pub wrote : Wrote k tree n d before after

pub data ClosedAt (code k : ℕ) (s : Bytes) (t : Token) (n d : ℕ) (before : List ℕ) : Optional (Token × ℕ) → List ℕ → Type 0 where
  closed_none : {o : parser.Found} {after : List ℕ} → Answers whole (onward s t) o → closed_by code o ≡ none → Kept before after
      → ClosedAt code k s t n d before None after
  closed_one : {u : Token} {m : ℕ} {after : List ℕ} → ClosedOne code k s t n d before u m after → ClosedAt code k s t n d before (Some (u, m)) after
