-- Document 02, F-12: "the lowest line of such a node", found node by node. A node is named by its number; 768 is none.
use Rattle.std.proofs.Math.Option.{Option, none, some}
use Rattle.std.specs.Prelude.{List, [], ◌∷◌, ℕ, min, ltb}
use Rattle.std.specs.Prelude.{if◌then◌else◌}
use Rattle.sheet.specs.Sizes.{most_nodes}
use Rattle.nodes.specs.Nodes.{word}

-- a node's line
unfoldable pub line_of : List ℕ → ℕ → Option ℕ
line_of t p = if ltb p most_nodes then some (word t p 7) else none

-- the lower of two lines
unfoldable pub lower : Option ℕ → Option ℕ → Option ℕ
lower none b = b
lower (some a) none = some a
lower (some a) (some b) = some (min a b)

-- the lowest of a line and those of some nodes
unfoldable pub lowest_with : List ℕ → Option ℕ → List ℕ → Option ℕ
lowest_with t a [] = a
lowest_with t a (p ∷ ps) = lowest_with t (lower a (some (word t p 7))) ps
