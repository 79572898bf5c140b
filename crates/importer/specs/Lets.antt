-- The `let`s that are open: no bracket limits how many stand inside one another, so that they are no calls. The variable of the j-th lies
-- at `let_variables`, and one more than its value's root, or 0 while that is read, at `let_roots`. Past 768 none is stored: then there are
-- too many nodes.
use Rattle.std.specs.Prelude.{◌≡◌, List, [], ◌∷◌, ◌++◌, ℕ, suc, ◌+◌, ◌≤◌, ◌<◌, length, get_or, Option as Optional, Some, None}
use Rattle.std.proofs.Math.Option.{none, some}
use Rattle.memory.specs.Map as memory
use Rattle.memory.specs.Codes as code
use Rattle.sheet.specs.Sizes.{most_nodes}
use Rattle.sheet.specs.Text.{Bytes}
use Rattle.sheet.specs.Lines.{Shape}
use Rattle.sheet.specs.Grammar.Trees.{Tree, let_in, two, count as nodes_in, shapes}
use Rattle.sheet.specs.Grammar.Parser.{binding}
use Rattle.sheet.specs.Grammar.Tokens.{Tokens}
use Rattle.tables.specs.Layout.{Kept}
use Rattle.tokens.specs.declared.Token.{Token}
use Rattle.tokens.specs.Codes.{after_code}
use Rattle.tokens.specs.Meanings.{onward}
use Rattle.phrases.specs.Meanings.{Further}
use Rattle.shapes.specs.Fields.{cut}
use Rattle.emission.specs.Nodes.{HoldsNodes}
use Rattle.importer.specs.declared.lets.Closed.{Closed}

-- the first n are as they were
pub record SameLets (n : ℕ) (before after : List ℕ) : Type 0 where
  pub variables : (j : ℕ) → j < n → j < most_nodes → get_or after (memory.let_variables + j) 0 ≡ get_or before (memory.let_variables + j) 0
  pub roots : (j : ℕ) → j < n → j < most_nodes → get_or after (memory.let_roots + j) 0 ≡ get_or before (memory.let_roots + j) 0

-- a `let` whose value is being read, or whose body is
pub data Frame : Type 0 where
  value : ℕ → Frame
  body : ℕ → Tree → Frame

-- the nodes of those values that have been read
unfoldable pub counted : List Frame → ℕ
counted [] = 0
counted (value i ∷ fs) = counted fs
counted (body i e ∷ fs) = counted fs + nodes_in e

-- they follow n nodes; the outermost `let` stands last
unfoldable pub value_nodes : ℕ → List Frame → List Shape
value_nodes n [] = []
value_nodes n (value i ∷ fs) = value_nodes n fs
value_nodes n (body i e ∷ fs) = value_nodes n fs ++ shapes e (n + counted fs)

-- they lie in the words from the place `from` on, after n nodes
pub data LetsLie (w : List ℕ) (from n : ℕ) : List Frame → Type 0 where
  no_lets : LetsLie w from n []
  value_lies : {i : ℕ} {fs : List Frame} → get_or w (memory.let_variables + (from + length fs)) 0 ≡ cut i → get_or w (memory.let_roots + (from + length fs)) 0 ≡ 0
      → LetsLie w from n fs → LetsLie w from n (value i ∷ fs)
  body_lies : {i : ℕ} {e : Tree} {fs : List Frame} → get_or w (memory.let_variables + (from + length fs)) 0 ≡ cut i
      → get_or w (memory.let_roots + (from + length fs)) 0 ≡ n + (counted fs + nodes_in e) → LetsLie w from n fs → LetsLie w from n (body i e ∷ fs)

-- an expression x that stands in the `let`s fs, which begin at `from`, after n nodes: with it there are m nodes and d `let`s
pub record Open (k from n : ℕ) (fs : List Frame) (x : Tree) (before : List ℕ) (m d : ℕ) (w : List ℕ) : Type 0 where
  pub lets : d ≡ from + length fs
  pub count : m ≡ n + (counted fs + nodes_in x)
  pub lies : LetsLie w from n fs
  pub nodes : (xs : List Shape) → length xs ≡ n → HoldsNodes k xs before → HoldsNodes k (xs ++ (value_nodes n fs ++ shapes x (n + counted fs))) w

-- the innermost bodies, which an expression x ends
unfoldable pub ended_in : List Frame → Tree → Tree
ended_in [] x = x
ended_in (value i ∷ fs) x = x
ended_in (body i e ∷ fs) x = ended_in fs (two (let_in i) e x)

unfoldable pub left_open : List Frame → List Frame
left_open [] = []
left_open (value i ∷ fs) = value i ∷ fs
left_open (body i e ∷ fs) = left_open fs

-- m nodes and d `let`s before, r after: the bodies that end are nodes
pub record LetsClosed (k from m d : ℕ) (before : List ℕ) (r : Closed) (after : List ℕ) : Type 0 where
  pub sum : r.nodes + r.lets ≡ m + d
  pub least : from ≤ r.lets
  pub past : most_nodes < m + d → r.lets ≡ d
  pub ends : (n : ℕ) (fs : List Frame) (x : Tree) (first : List ℕ) → m + d ≤ most_nodes → Open k from n fs x first m d before
      → Open k from n (left_open fs) (ended_in fs x) first r.nodes r.lets after
  pub lets : SameLets from before after
  pub kept : Kept before after

-- a `let` more, the last of which is number d from 0 on
pub record LetOpened (d v : ℕ) (before after : List ℕ) : Type 0 where
  pub lies : (from n : ℕ) (fs : List Frame) (i : ℕ) → v ≡ cut i → d ≡ from + length fs → d < most_nodes → LetsLie before from n fs → LetsLie after from n (value i ∷ fs)
  pub below : (j : ℕ) → j < memory.nodes_end → get_or after j 0 ≡ get_or before j 0
  pub lets : SameLets d before after
  pub kept : Kept before after

-- `v1 =` at t, after a `let`, which is the d-th
pub data BoundAt (s : Bytes) (t : Token) (d : ℕ) (before : List ℕ) : Optional Token → List ℕ → Type 0 where
  not_bound : binding (onward s t) ≡ none → BoundAt s t d before None before
  a_bound : {u : Token} {after : List ℕ} {v : ℕ} (i : ℕ) → binding (onward s t) ≡ some (i, onward s u) → v ≡ cut i → Further s t u → LetOpened d v before after
      → BoundAt s t d before (Some u) after

-- `let v1 =` at t, which opens the d-th `let`; a `let` may break off
pub data HeadAt (s : Bytes) (t : Token) (d : ℕ) (before : List ℕ) : Optional (Optional Token) → List ℕ → Type 0 where
  no_head : after_code code.let_in (onward s t) ≡ none → HeadAt s t d before None before
  broken_head : (r : Tokens) → after_code code.let_in (onward s t) ≡ some r → binding r ≡ none → HeadAt s t d before (Some None) before
  a_head : {u : Token} {after : List ℕ} {v : ℕ} (r : Tokens) (i : ℕ) → after_code code.let_in (onward s t) ≡ some r → binding r ≡ some (i, onward s u)
      → v ≡ cut i → Further s t u → LetOpened d v before after → HeadAt s t d before (Some (Some u)) after

-- the value of the d-th `let` ends with node m - 1
pub record ValueEnded (d m : ℕ) (before after : List ℕ) : Type 0 where
  pub lies : (from n : ℕ) (fs : List Frame) (i : ℕ) (e : Tree) → d ≡ from + suc (length fs) → d ≤ most_nodes → m ≡ n + (counted fs + nodes_in e)
      → LetsLie before from n (value i ∷ fs) → LetsLie after from n (body i e ∷ fs)
  pub below : (j : ℕ) → j < memory.nodes_end → get_or after j 0 ≡ get_or before j 0
  pub lets : (n : ℕ) → n < d → SameLets n before after
  pub kept : Kept before after
