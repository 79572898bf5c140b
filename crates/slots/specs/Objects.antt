-- The objects in a value by its cells. proofs/ObjectLaws.antt: they are the parts that crates/sheet's `object_below` asks for.
use Rattle.std.specs.Prelude.{◌≡◌, Bool, true, List, ℕ, ◌-◌, ltb, leb}
use Rattle.std.specs.Prelude.{if◌then◌else◌}
use Rattle.ocl.specs.Values.{Value, every_part}
use Rattle.sheet.specs.Refusals.{object_below}
use Rattle.values.specs.Cells.{enc, Fits, object_cells, collection_cells}

unfoldable pub cell_known : ℕ → ℕ → Bool
cell_known n c = if ltb c object_cells then true else if leb collection_cells c then true else ltb (c - object_cells) n

pub record KnownIs (cells : List ℕ) (n : ℕ) (r : Bool) : Type 0 where
  pub is : (v : Value) → Fits v → cells ≡ enc v → r ≡ every_part (object_below n) v
