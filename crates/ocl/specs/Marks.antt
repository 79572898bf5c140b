-- Document 01, Evaluation: "Typing marks each `attr` with its row; beyond such marks the rules read no types."
use Rattle.std.specs.Prelude.{List, [], ◌∷◌, ℕ, eqb}
use Rattle.std.specs.Prelude.{if◌then◌else◌}
use Rattle.ocl.specs.Types.{Kind, bag}

-- document 02, F-8: "a node whose operands are both typed below Int goes as before (typing marks it)", by Integers; any other by Reals
pub data Scale : Type 0 where
  integers reals : Scale

-- what evaluation reads of a node's typing
pub data Mark : Type 0 where
  -- of `attr`: its row
  of_row : ℕ → Mark
  -- of `collect`: the resulting kind and its row (document 02, F-4)
  of_rows : Kind → ℕ → Mark
  -- of `plus`, `minus`, `times` and `less`
  of_numbers : Scale → Mark

-- the row, which is asked of `attr` and `collect` alone
unfoldable pub row_marked : Mark → ℕ
row_marked (of_row i) = i
row_marked (of_rows k i) = i
row_marked (of_numbers x) = 0

-- the kind, of `collect` alone
unfoldable pub kind_marked : Mark → Kind
kind_marked (of_row i) = bag
kind_marked (of_rows k i) = k
kind_marked (of_numbers x) = bag

-- the numbers, of the four forms that are marked so
unfoldable pub scale_marked : Mark → Scale
scale_marked (of_row i) = integers
scale_marked (of_rows k i) = integers
scale_marked (of_numbers x) = x

-- nodes with their marks, in the order made
abbrev pub Marks : Type 0
Marks = List (ℕ × Mark)

-- what node p is marked with, and d where it is not; no node is marked twice
unfoldable pub mark_or : Mark → Marks → ℕ → Mark
mark_or d [] p = d
mark_or d (x ∷ m) p = mark_or (if eqb p x.0 then x.1 else d) m p

-- the marks as evaluation reads them; it reads them at nodes that typing marks
unfoldable pub mark_in : Marks → ℕ → Mark
mark_in m p = mark_or (of_row 0) m p
