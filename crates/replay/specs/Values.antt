-- Which words are the cells of a value. What board words hold may be anything: "else an edit need only end" (document 02, F-10).
use Rattle.std.specs.Prelude.{◌≡◌, Bool, true, List, [], ◌∷◌, ◌++◌, ℕ, ◌+◌, ◌<◌, ◌≤◌, length, drop}
use Rattle.ocl.specs.Values.{Value, every_part}
use Rattle.sheet.specs.Limits.{part_within, nesting, value_within}
use Rattle.values.specs.Cells.{head, enc, Fits}

-- a value whose parts are within their limits, with at most d collections inside one another
pub record Small (d : ℕ) (v : Value) : Type 0 where
  pub fits : Fits v
  pub parts : every_part part_within v ≡ true
  pub nests : nesting v ≤ d

-- a value of one cell
pub record Lone (cell : ℕ) : Type 0 where
  pub value : Value
  pub small : Small 0 value
  pub is : enc value ≡ cell ∷ []

pub record SimpleCell (cell : ℕ) (r : Bool) : Type 0 where
  pub found : r ≡ true → Lone cell
  pub is : (v : Value) → Small 0 v → cell ≡ head v → r ≡ true

-- a value lies from p to r
pub record Spans (cells : List ℕ) (p d r : ℕ) : Type 0 where
  pub value : Value
  pub small : Small d value
  pub lies : drop p cells ≡ enc value ++ drop r cells
  pub to : r ≡ p + length (enc value)

-- r is the place after the value at p, or 0
pub record EndsAt (cells : List ℕ) (p d r : ℕ) : Type 0 where
  pub found : 0 < r → Spans cells p d r
  pub is : (v : Value) (y : List ℕ) → Small d v → drop p cells ≡ enc v ++ y → r ≡ p + length (enc v)

-- the cells are those of a value within its limits
pub record Whole (cells : List ℕ) : Type 0 where
  pub value : Value
  pub fits : Fits value
  pub within : value_within value ≡ true
  pub lies : cells ≡ enc value

pub record IsValue (cells : List ℕ) (r : Bool) : Type 0 where
  pub found : r ≡ true → Whole cells
  pub is : (v : Value) → Fits v → value_within v ≡ true → cells ≡ enc v → r ≡ true
