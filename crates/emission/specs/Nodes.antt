-- The nodes of a text while it is read, as they lie in the third slice of words: node i, counted from the rule's first, in the words 8 i
-- to 8 i + 7. Words 0 to 6 are those of crates/trees' `Parsed`; word 7, which there is the line, holds the rest of it.
use Rattle.std.specs.Prelude.{◌≡◌, true, List, [], ◌∷◌, ◌++◌, ℕ, ◌+◌, ◌*◌, ◌/◌, ◌%◌, ◌≤◌, ◌<◌, length, get_or, eqb}
use Rattle.std.specs.Prelude.{if◌then◌else◌}
use Rattle.memory.specs.Map as memory
use Rattle.ocl.specs.Forms.{undef}
use Rattle.sheet.specs.Sizes.{most_classes, most_nodes}
use Rattle.sheet.specs.Lines.{Shape, leaf}
use Rattle.nodes.specs.Nodes.{word}
use Rattle.tables.specs.Layout.{Kept}
use Rattle.shapes.specs.Forms.{StandsFor}
use Rattle.shapes.specs.declared.Parsed.{Parsed}

-- whether it is within its limits, whether two variables differ, how many operands it has, and how many classes there must be
unfoldable pub packed : Parsed → ℕ
packed p = (if p.within then 1 else 0) + ((if p.apart then 2 else 0) + (4 * p.count + 32 * p.classes))

-- node i; its line is `line`
unfoldable pub parsed_in : ℕ → List ℕ → ℕ → Parsed
parsed_in line w i = record {
  spelled = true;
  words = word w i 0 ∷ word w i 1 ∷ word w i 2 ∷ word w i 3 ∷ word w i 4 ∷ word w i 5 ∷ word w i 6 ∷ line ∷ [];
  count = word w i 7 / 4 % 8;
  within = eqb (word w i 7 % 2) 1;
  apart = eqb (word w i 7 / 2 % 2) 1;
  classes = word w i 7 / 32;
}

-- a node that stands for the form x, as crates/trees wants it
pub record NodeIs (line : ℕ) (x : Shape) (p : Parsed) : Type 0 where
  pub stands : StandsFor line x p
  pub few : p.count ≤ 4
  pub classes : p.classes ≤ most_classes + 1

-- the first nodes stand for these forms
pub record HoldsNodes (line : ℕ) (xs : List Shape) (w : List ℕ) : Type 0 where
  pub at : (i : ℕ) → i < length xs → NodeIs line (get_or xs i (leaf undef)) (parsed_in line w i)

-- the words behind all nodes (`nodes_end`) are as they were
pub record KeptBehind (before after : List ℕ) : Type 0 where
  pub kept : Kept before after
  pub behind : (i : ℕ) → memory.nodes_end ≤ i → get_or after i 0 ≡ get_or before i 0

-- p is put down as node n, where there may be such a node
pub record Emitted (n : ℕ) (p : Parsed) (before after : List ℕ) : Type 0 where
  pub node : n < most_nodes → (line : ℕ) (x : Shape) → StandsFor line x p → (xs : List Shape) → length xs ≡ n → HoldsNodes line xs before → HoldsNodes line (xs ++ (x ∷ [])) after
  pub kept : KeptBehind before after
