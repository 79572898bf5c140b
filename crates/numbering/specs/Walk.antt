-- What the contracts of the recursion say: for every schema that the lent words hold, with what was found in called bodies, the node that
-- is found.
use Rattle.std.specs.Prelude.{◌≡◌, Bool, List, ℕ, suc, ◌<◌, ◌≤◌, get_or, Result}
use Rattle.std.proofs.Math.Option.{none}
use Rattle.memory.specs.Map as memory
use Rattle.memory.specs.Codes as code
use Rattle.ocl.specs.Model.{Schema}
use Rattle.ocl.specs.Typing.{Answer}
use Rattle.sheet.specs.Sizes.{most_rows, most_nodes}
use Rattle.nodes.specs.Nodes.{word}
use Rattle.judgements.specs.Replies.{meaning, ReadsRows}
use Rattle.numbering.specs.Lowest.{line_of, lowest_with}
use Rattle.numbering.specs.Forms.{called_at}
use Rattle.memory.specs.declared.refusals.Refused.{Refused}
use Rattle.types.specs.declared.FlatType.{FlatType}

-- of each call before node n, what is outside in the body: a word has the node with the lowest line
pub record CallsTold (t least : List ℕ) (k : Schema) (n : ℕ) : Type 0 where
  pub at : (m : ℕ) → m < n → word t m 0 ≡ code.call → line_of t (get_or least m 0) ≡ lowest_with t none (called_at k t m)

-- node n and so many rows are within what is lent
pub record WalkRoom (n rows tables nodes least marks : ℕ) : Type 0 where
  pub in_nodes : n < most_nodes
  pub in_rows : rows ≤ most_rows
  pub in_tables : memory.rows_end ≤ tables
  pub all_nodes : memory.nodes_end ≤ nodes
  pub all_calls : most_nodes ≤ least
  pub all_marks : most_nodes ≤ marks

-- r has the lowest line among that of `best` and those of the nodes f
pub record Finds (t least parents tables : List ℕ) (rows n : ℕ) (f : Schema → List ℕ) (best r : ℕ) : Type 0 where
  pub at : (k : Schema) → ReadsRows parents tables rows k → CallsTold t least k (suc n) → line_of t r ≡ lowest_with t (line_of t best) (f k)

-- without a look at calls
pub record FindsHere (t parents tables : List ℕ) (rows : ℕ) (f : Schema → List ℕ) (best r : ℕ) : Type 0 where
  pub at : (k : Schema) → ReadsRows parents tables rows k → line_of t r ≡ lowest_with t (line_of t best) (f k)

-- a test
pub record Tests (parents tables : List ℕ) (rows : ℕ) (f : Schema → Bool) (r : Bool) : Type 0 where
  pub at : (k : Schema) → ReadsRows parents tables rows k → r ≡ f k

-- what typing answers
pub record Types (parents tables : List ℕ) (rows : ℕ) (f : Schema → Answer) (r : Result FlatType Refused) : Type 0 where
  pub at : (k : Schema) → ReadsRows parents tables rows k → meaning r ≡ f k
