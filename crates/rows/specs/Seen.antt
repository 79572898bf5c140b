-- The rows of each node's tree (crates/ocl's `tree_rows`), a called body's with them, as words: node n's in word n of w2.
use Rattle.std.specs.Prelude.{◌≡◌, ◌||◌, List, [], ◌∷◌, ◌++◌, ℕ, ◌+◌, ◌%◌, ◌≤◌, ◌<◌, eqb, get_or}
use Rattle.std.specs.Prelude.{if◌then◌else◌}
use Rattle.memory.specs.Codes as code
use Rattle.memory.specs.Map as memory
use Rattle.ocl.specs.Marks.{Mark, row_marked}
use Rattle.ocl.specs.Unseen.{tree_rows, tree_rows_of}
use Rattle.sheet.specs.Sizes.{most_rows, most_nodes}
use Rattle.nodes.specs.Nodes.{word, operands_in, trees_below, tree_at}
use Rattle.tables.specs.Layout.{Kept}
use Rattle.rows.specs.Bits.{Bits}

-- ---- a node

-- the row that a node with code k was resolved to: of `attr` and `collect`
unfoldable pub own_row : (ℕ → Mark) → ℕ → ℕ → List ℕ
own_row mark n k = if eqb k code.of_object || eqb k code.of_members then row_marked (mark n) ∷ [] else []

-- the rows of operand k of node n, and of c operands from word k on
abbrev pub operand_rows : (ℕ → Mark) → List ℕ → ℕ → ℕ → List ℕ
operand_rows mark t n k = tree_rows mark (trees_below t n (word t n k))

abbrev pub operands_rows : (ℕ → Mark) → List ℕ → ℕ → ℕ → ℕ → List ℕ
operands_rows mark t n c k = tree_rows_of mark (operands_in (trees_below t n) (word t n) c k)

-- node n has c operands, from word 1 on: its rows are theirs and its own
pub record Parts (t : List ℕ) (n c : ℕ) : Type 0 where
  pub few : c ≤ 4
  pub rows : (mark : ℕ → Mark) → tree_rows mark (tree_at t n) ≡ operands_rows mark t n c 1 ++ own_row mark n (word t n 0)

-- ---- all nodes

-- the marks that are kept in w1 have each node's row
pub record RowsMarked (w1 : List ℕ) (mark : ℕ → Mark) : Type 0 where
  pub at : (p : ℕ) → p < most_nodes → row_marked (mark p) ≡ get_or w1 (memory.marks + p) 0 % most_rows

-- the words of the first n nodes
pub record SeenTo (mark : ℕ → Mark) (w1 w2 : List ℕ) (n : ℕ) : Type 0 where
  pub at : (a : ℕ) → a < n → Bits (get_or w2 a 0) (tree_rows mark (tree_at w1 a))

-- the word of an operand, of a node's own row, and of a node, once those before node n are there
pub record SeesOperand (w1 w2 : List ℕ) (n k r : ℕ) : Type 0 where
  pub is : (mark : ℕ → Mark) → SeenTo mark w1 w2 n → Bits r (operand_rows mark w1 n k)

pub record SeesOwn (w1 : List ℕ) (n r : ℕ) : Type 0 where
  pub is : (mark : ℕ → Mark) → RowsMarked w1 mark → Bits r (own_row mark n (word w1 n 0))

pub record SeesNode (w1 w2 : List ℕ) (n r : ℕ) : Type 0 where
  pub is : (mark : ℕ → Mark) → RowsMarked w1 mark → SeenTo mark w1 w2 n → Bits r (tree_rows mark (tree_at w1 n))

-- every node's word is there
abbrev pub AllSeen : List ℕ → List ℕ → Type 0
AllSeen w1 w2 = (mark : ℕ → Mark) → RowsMarked w1 mark → SeenTo mark w1 w2 most_nodes

-- w2 was `before`
pub record SeesAll (w1 before after : List ℕ) : Type 0 where
  pub seen : AllSeen w1 after
  pub kept : Kept before after
