-- The attribute rows as two tables, each row's owner and its name; proofs/RowLaws.antt: a model that reads these tables finds
-- the same rows. Document 01, The forms and their typing, `attr`.
use Rattle.std.specs.Prelude.{◌&&◌, List, ◌≡◌, ℕ, zero, suc, ◌≤◌, ◌<◌, get_or, eqb, Option as Optional, Some, None}
use Rattle.std.proofs.Math.Option.{Option, none, some}
use Rattle.laws.specs.Choice.{or_else, on_some}
use Rattle.std.specs.Prelude.{if◌then◌else◌}
use Rattle.ocl.specs.Types.{Parents}
use Rattle.types.specs.Flat.{parents_in}

-- the row that class c itself declares with the name, among the first n rows
unfoldable pub declared_in : List ℕ → List ℕ → ℕ → ℕ → ℕ → Option ℕ
declared_in owners names c name zero = none
declared_in owners names c name (suc n) =
    if eqb (get_or owners n 0) c && eqb (get_or names n 0) name then some n else declared_in owners names c name n

-- the nearest declaration from class c upward, through at most n classes
unfoldable pub nearest_in : Parents → List ℕ → List ℕ → ℕ → ℕ → ℕ → ℕ → Option ℕ
nearest_in parent owners names rows name zero c = none
nearest_in parent owners names rows name (suc n) c =
    or_else (declared_in owners names c name rows) (on_some (parent c) (nearest_in parent owners names rows name n))

unfoldable pub row_read_in : List ℕ → List ℕ → List ℕ → ℕ → ℕ → ℕ → Option ℕ
row_read_in ps owners names rows c name = nearest_in (parents_in ps) owners names rows name (suc c) c

-- what the code answers for a row
unfoldable pub found : Optional ℕ → Option ℕ
found (Some i) = some i
found None = none

-- the rows from `low` to `high` have another name
pub record Unnamed (names : List ℕ) (name low high : ℕ) : Type 0 where
  pub other : (i : ℕ) → low ≤ i → i < high → get_or names i 0 ≡ name → ⊥
