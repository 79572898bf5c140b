-- The classes and rows that typing reads, as parts of the lent words: parents (a parent and one, or 0), and each row's owner,
-- name and type, the type as one word.
use Rattle.std.specs.Prelude.{◌≡◌, List, ℕ, ◌<◌, get_or}
use Rattle.ocl.specs.Model.{Schema}
use Rattle.types.specs.Flat.{parents_in}
use Rattle.types.specs.Word.{type_in}

pub record HoldsClasses (parents owners names types : List ℕ) (m : Schema) : Type 0 where
  pub parent : m.parent ≡ parents_in parents
  pub row : (i : ℕ) → i < m.row_count → m.row i ≡ record { owner = get_or owners i 0; name = get_or names i 0; type = type_in (get_or types i 0) }
