-- What the code promises that puts a node down after its operands, or begins a primary.
use Rattle.std.specs.Prelude.{◌≡◌, List, [], ◌∷◌, ◌++◌, ℕ, ◌+◌, ◌-◌, ◌<◌, length, Option as Optional, Some, None}
use Rattle.std.proofs.Math.Option.{none, some}
use Rattle.ocl.specs.Types.{Kind}
use Rattle.sheet.specs.Sizes.{most_nodes}
use Rattle.sheet.specs.Text.{Bytes}
use Rattle.sheet.specs.Lines.{Shape}
use Rattle.sheet.specs.Grammar.Trees.{Two, Tree, count, two_shape}
use Rattle.sheet.specs.Grammar.Parser.{done, bracket, condition, collection, start_of}
use Rattle.nodes.specs.Nodes.{assemble_code}
use Rattle.tokens.specs.declared.Token.{Token}
use Rattle.tokens.specs.Meanings.{onward}
use Rattle.phrases.specs.Meanings.{Further, StandsAsTwo}
use Rattle.emission.specs.Nodes.{HoldsNodes, KeptBehind}
use Rattle.importer.specs.Descent.{Wrote}
use Rattle.importer.specs.declared.begin.Begun.{Begun}
use Rattle.importer.specs.declared.begin.Begun.TheVariants as begun

-- the form x is put down as node n, where there may be such a node
pub record PutNode (k n : ℕ) (x : Shape) (before after : List ℕ) : Type 0 where
  pub node : n < most_nodes → (xs : List Shape) → length xs ≡ n → HoldsNodes k xs before → HoldsNodes k (xs ++ (x ∷ [])) after
  pub kept : KeptBehind before after

-- what was found, if anything was, has nodes after the first a, and one more can be counted
pub data Behind (a : ℕ) : Optional (Token × ℕ) → Type 0 where
  behind_none : Behind a None
  behind_one : {u : Token} {b : ℕ} → a < b → b < 18446744073709551615 → Behind a (Some (u, b))

-- the form of two operands with this code is put down after its right one, if that was found; the left one ends before node a
pub data Joins (k code a : ℕ) (before : List ℕ) : Optional (Token × ℕ) → Optional (Token × ℕ) → List ℕ → Type 0 where
  joins_none : Joins k code a before None None before
  joins_one : {u : Token} {b : ℕ} {after : List ℕ} → ((f : Two) → StandsAsTwo f code 0 → PutNode k b (two_shape f (a - 1) (b - 1)) before after)
      → Joins k code a before (Some (u, b)) (Some (u, b + 1)) after

-- a primary of one node
pub record DoneAt (k : ℕ) (s : Bytes) (t : Token) (n : ℕ) (before : List ℕ) (u : Token) (after : List ℕ) : Type 0 where
  pub tree : Tree
  pub starts : start_of (onward s t) ≡ some (done tree (onward s u))
  pub single : count tree ≡ 1
  pub further : Further s t u
  pub wrote : (d : ℕ) → Wrote k tree n d before after

-- how the primary at t begins
pub data BeginAt (k : ℕ) (s : Bytes) (t : Token) (n : ℕ) (before : List ℕ) : Optional Begun → List ℕ → Type 0 where
  begin_none : start_of (onward s t) ≡ none → BeginAt k s t n before None before
  begin_done : {u : Token} {after : List ℕ} → DoneAt k s t n before u after → BeginAt k s t n before (Some (begun.Done u)) after
  begin_bracket : {u : Token} → start_of (onward s t) ≡ some (bracket (onward s u)) → Further s t u → BeginAt k s t n before (Some (begun.Bracket u)) before
  begin_condition : {u : Token} → start_of (onward s t) ≡ some (condition (onward s u)) → Further s t u → BeginAt k s t n before (Some (begun.Condition u)) before
  begin_members : {code : ℕ} {u : Token} (a : Kind) → start_of (onward s t) ≡ some (collection a (onward s u)) → assemble_code a ≡ code → Further s t u
      → BeginAt k s t n before (Some (begun.Members code u)) before
