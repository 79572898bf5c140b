-- The size of slots one after the other. Assumes nothing.
use mathlib.Core.Path.{◌≡◌}
use mathlib.Core.List.{List, [], ◌∷◌, ◌++◌}
use Prim.Native.Nat.{◌+◌}
use native.Mathlib.Omega.{arith}
use Rattle.ocl.specs.Values.{size}
use Rattle.sheet.specs.Sheet.{Slot}
use Rattle.sheet.specs.Limits.{total_size}

pub size_append : (xs ys : List Slot) → total_size (xs ++ ys) ≡ total_size xs + total_size ys
unfolding total_size
size_append [] ys = omega arith
size_append (x ∷ xs) ys = omega (arith, size_append xs ys)

pub size_more : (xs : List Slot) (x : Slot) → total_size (xs ++ (x ∷ [])) ≡ total_size xs + size x.value
unfolding total_size
size_more xs x = omega (arith, size_append xs (x ∷ []))
