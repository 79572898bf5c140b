-- A row that is found is one of the rows. Assumes nothing.
use mathlib.Core.Path.{◌≡◌}
use mathlib.Core.Bool.{Bool, true, false, ◌&&◌}
use mathlib.Core.Option.{Option, some, none-ne-some, some-injective}
use mathlib.Core.List.{List}
use Prim.Native.Nat.{ℕ, zero, suc, ◌<◌}
use native.Mathlib.Omega.{arith}
use lib.ListN.{get_or}
use lib.Dec.{eqb}
use Rattle.std.specs.Prelude.{if◌then◌else◌}
use Rattle.laws.proofs.Options.{or_else_some, on_some_some}
use Rattle.ocl.specs.Types.{Parents}
use Rattle.types.specs.Flat.{parents_in}
use Rattle.types.specs.Rows.{declared_in, nearest_in, row_read_in}

found_or : (b : Bool) (n i : ℕ) (o : Option ℕ) → (if b then some n else o) ≡ some i → (o ≡ some i → i < n) → i < suc n
found_or true n i o e h = let q = some-injective n i e in omega arith
found_or false n i o e h = let q = h e in omega arith

declared_below : (owners names : List ℕ) (c name n i : ℕ) → declared_in owners names c name n ≡ some i → i < n
unfolding declared_in
declared_below owners names c name zero i e = absurd (none-ne-some _ e)
declared_below owners names c name (suc n) i e = found_or (eqb (get_or owners n 0) c && eqb (get_or names n 0) name) n i _ e (declared_below owners names c name n i)

nearest_below : (parent : Parents) (owners names : List ℕ) (rows name n c i : ℕ) → nearest_in parent owners names rows name n c ≡ some i → i < rows
unfolding nearest_in
nearest_below parent owners names rows name zero c i e = absurd (none-ne-some _ e)
nearest_below parent owners names rows name (suc n) c i e =
    or_else_some (declared_in owners names c name rows) _ e
    (declared_below owners names c name rows i)
    (λ q. let s = on_some_some (parent c) _ q in nearest_below parent owners names rows name n s.0 i s.2)

pub row_below : (ps owners names : List ℕ) (rows c name i : ℕ) → row_read_in ps owners names rows c name ≡ some i → i < rows
unfolding row_read_in
row_below ps owners names rows c name i e = nearest_below (parents_in ps) owners names rows name (suc c) c i e
