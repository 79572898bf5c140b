-- Document 02, F-9: the rows that a rule sees, run or not.
use Rattle.std.specs.Prelude.{List, [], ◌∷◌, ◌++◌, map, ℕ}
use Rattle.laws.specs.Lists.{concat}
use Rattle.ocl.specs.Model.{Schema}
use Rattle.ocl.specs.Forms.{Expr, calls}
use Rattle.ocl.specs.Marks.{Mark, of_row, of_rows, of_numbers, Marks}
use Rattle.ocl.specs.Typing.{type_rule, type_definition}

-- the row that a marked node "was resolved to": of `attr` and `collect`
unfoldable pub row_in : Mark → List ℕ
row_in (of_row i) = i ∷ []
row_in (of_rows k i) = i ∷ []
row_in (of_numbers x) = []

unfoldable pub rows_of : Marks → List ℕ
rows_of [] = []
rows_of (x ∷ m) = row_in x.1 ++ rows_of m

-- the rows that a rule of class c sees: those that its nodes were resolved to, run or not; and by F-13 "what .. F-9 to F-12 say of a
-- rule's nodes includes those of every definition it reaches"
unfoldable pub resolved_rows : Schema → ℕ → Expr → List ℕ
resolved_rows s c e = rows_of (type_rule s c e).marks ++ concat (map (λ d. rows_of (type_definition s d).marks) (calls e))
