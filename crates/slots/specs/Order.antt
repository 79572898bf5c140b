-- The order of members by the cells: each cell begins a value, and the values' own members in a row make the whole ordered
-- (proofs/OrderLaws.antt).
use Rattle.std.specs.Prelude.{◌≡◌, Bool, true, ◌&&◌, List, ◌++◌, ℕ, length, eqb}
use Rattle.std.proofs.Math.Seq.{slice}
use Rattle.std.specs.Prelude.{if◌then◌else◌}
use Rattle.std.specs.declared.cmp.Ordering.{Ordering as Library}
use Rattle.std.specs.Ordering.{is_lt, is_le}
use Rattle.ocl.specs.Values.{Value, Values, nil, cons, sort, members, order}
use Rattle.sheet.specs.Refusals.{ordered}
use Rattle.values.specs.Cells.{enc, Fits, ordering}

-- may a member follow another in a collection of this sort: 3 for a Set, 5 for a Bag
unfoldable pub follows : ℕ → Library → Bool
follows s c = if eqb s 3 then is_lt c else if eqb s 5 then is_le c else true

unfoldable pub row : ℕ → Values → Bool
row s nil = true
row s (cons v nil) = true
row s (cons v (cons w ws)) = follows s (ordering (order v w)) && row s (cons w ws)

-- a value's own members, not those of its members
unfoldable pub members_in_order : Value → Bool
members_in_order v = row (sort v) (members v)

pub record RowAt (cells : List ℕ) (p : ℕ) (r : Bool) : Type 0 where
  pub is : (v : Value) (y : List ℕ) → Fits v → slice p (length cells) cells ≡ enc v ++ y → r ≡ members_in_order v

pub record OrderIs (cells : List ℕ) (r : Bool) : Type 0 where
  pub is : (v : Value) → Fits v → cells ≡ enc v → r ≡ ordered v
