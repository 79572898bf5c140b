-- `bring` meets its contract. Assumes nothing.
use Prim.Native.Nat.{ℕ, ◌+◌}
use mathlib.Core.Path.{ap}
use native.Mathlib.Omega.{arith}
use Rattle.outcomes.proofs.Lookups.{stands_empty, stands_far, stands}
use Rattle.memory.specs.Map as memory
use Rattle.outcomes.proofs.lookup.bring.Goals as goal
use Rattle.outcomes.proofs.lookup.bring.Goals.{then-e-a-via-then-e-a, then-e-a-via-else-e-a+then-e-gt-MOST_CELLS}

pub returns-then-e-a : goal.returns-then-e-a
returns-then-e-a c = elim c.then-e-a.branch [ then-e-a-via-then-e-a w ↦ search stands_empty | then-e-a-via-else-e-a+then-e-gt-MOST_CELLS w ↦ search stands_far ]

pub returns : goal.returns
returns c = stands _ _ _ _ _ c.start_of-a.ensures c.start_of-e.ensures _ _ (omega arith) _ (omega arith) (ap (λ (n : ℕ). memory.cells + n) c.wide.ensures) (ap (λ (n : ℕ). memory.cells + n) c.wide-2.ensures) c.push_cells.ensures c.formed.ensures
