-- `run_end` meets its contract.
use Prim.Native.Nat.{◌+◌}
use mathlib.Core.Path.{◌≡◌}
use lib.ListN.{drop}
use Rattle.tokens.specs.Meanings.{run}
use Rattle.tokens.proofs.cutting.run_end.Given as goal

abbrev pub invariant-loop-i : goal.invariant-loop-i
invariant-loop-i l = l.i + run (drop l.i l.s) ≡ l.at + run (drop l.at l.s)
