-- What the descent promises of an expression whose first token, or whose left side, has been read already.
use Rattle.std.specs.Prelude.{◌≡◌, List, ◌++◌, ℕ, suc, ◌+◌, ◌*◌, ◌≤◌, ◌<◌, length, Option as Optional, Some, None}
use Rattle.std.proofs.Math.Option.{none, some}
use Rattle.sheet.specs.Sizes.{most_nodes}
use Rattle.sheet.specs.Text.{Bytes}
use Rattle.sheet.specs.Lines.{Shape}
use Rattle.sheet.specs.Grammar.Tokens.{Tokens}
use Rattle.sheet.specs.Grammar.Trees.{Tree, count, shapes}
use Rattle.sheet.specs.Grammar.Sentences.{primary}
use Rattle.sheet.specs.Grammar.Parser.{Start, start_of, Next, step_of, steps}
use Rattle.sheet.specs.Grammar.Parser as parser
use Rattle.tables.specs.Layout.{Kept}
use Rattle.tokens.specs.declared.Token.{Token}
use Rattle.tokens.specs.Meanings.{onward, Ahead}
use Rattle.emission.specs.Nodes.{HoldsNodes, KeptBehind}
use Rattle.importer.specs.Lets.{SameLets}
use Rattle.importer.specs.Leaves.{negated}
use Rattle.importer.specs.Answers.{Answers}
use Rattle.importer.specs.Descent.{Wrote}

-- so many `not`s of the tree x, whose last node is n - 1
pub record Negates (k n times : ℕ) (before after : List ℕ) : Type 0 where
  pub nodes : (x : Tree) (m : ℕ) → n ≡ m + count x → n + times ≤ most_nodes → (xs : List Shape) → length xs ≡ m
      → HoldsNodes k (xs ++ shapes x m) before → HoldsNodes k (xs ++ shapes (negated times x) m) after
  pub kept : KeptBehind before after

-- ---- a primary that has begun with `start`, the rest of which is at t

pub record BegunOne (start : Start) (k : ℕ) (s : Bytes) (t : Token) (n d : ℕ) (before : List ℕ) (u : Token) (m : ℕ) (after : List ℕ) : Type 0 where
  pub tree : Tree
  pub answers : (s₀ : Tokens) → length (onward s t) < length s₀ → start_of s₀ ≡ some start → Answers primary s₀ (some (tree, onward s u))
  pub ahead : Ahead s u
  pub counted : m ≡ n + count tree
  -- its first token stands before t
  pub from : t.start + count tree ≤ suc u.start
  pub further : t.start < u.start
  pub wrote : Wrote k tree n d before after

pub data BegunAt (start : Start) (k : ℕ) (s : Bytes) (t : Token) (n d : ℕ) (before : List ℕ) : Optional (Token × ℕ) → List ℕ → Type 0 where
  begun_none : {after : List ℕ} → ((s₀ : Tokens) → length (onward s t) < length s₀ → start_of s₀ ≡ some start → Answers primary s₀ none) → Kept before after
      → BegunAt start k s t n d before None after
  begun_one : {u : Token} {m : ℕ} {after : List ℕ} → BegunOne start k s t n d before u m after → BegunAt start k s t n d before (Some (u, m)) after

-- ---- a step of a tree a, whose last node is n - 1; the step's operands are at t

-- what the parser's steps make of a tree and what follows it
pub record Stepped (a : Tree) (s : Tokens) (o : parser.Found) : Type 0 where
  pub answers : (f : ℕ) → 16 * length s + 1 ≤ f → steps f a s (step_of s) ≡ o

-- the step makes `grows a` of a, which has so many nodes more
pub record StepOne (next : Next) (k : ℕ) (s : Bytes) (t : Token) (n d : ℕ) (before : List ℕ) (u : Token) (m : ℕ) (after : List ℕ) : Type 0 where
  pub grows : Tree → Tree
  pub more : ℕ
  pub count_is : (a : Tree) → count (grows a) ≡ count a + more
  pub answers : (a : Tree) (s₀ : Tokens) → step_of s₀ ≡ next → (o : parser.Found) → Stepped (grows a) (onward s u) o → Stepped a s₀ o
  pub ahead : Ahead s u
  pub counted : m ≡ n + more
  pub from : t.start + more ≤ suc u.start
  pub further : t.start < u.start
  pub nodes : (a : Tree) (i : ℕ) → n ≡ i + count a → m + d ≤ most_nodes → (xs : List Shape) → length xs ≡ i
      → HoldsNodes k (xs ++ shapes a i) before → HoldsNodes k (xs ++ shapes (grows a) i) after
  pub lets : SameLets d before after
  pub kept : Kept before after

pub data StepAt (next : Next) (k : ℕ) (s : Bytes) (t : Token) (n d : ℕ) (before : List ℕ) : Optional (Token × ℕ) → List ℕ → Type 0 where
  step_none : {after : List ℕ} → ((a : Tree) (s₀ : Tokens) → step_of s₀ ≡ next → Stepped a s₀ none) → Kept before after → StepAt next k s t n d before None after
  step_one : {u : Token} {m : ℕ} {after : List ℕ} → StepOne next k s t n d before u m after → StepAt next k s t n d before (Some (u, m)) after
