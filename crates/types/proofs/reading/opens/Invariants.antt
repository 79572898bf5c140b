-- `opens` meets its contract. The loop's invariant: the brackets passed and those that lead what is left are all that lead.
use Prim.Native.Nat.{◌+◌}
use mathlib.Core.Path.{◌≡◌}
use lib.ListN.{drop}
use Rattle.types.specs.Reading.{opens_of}
use Rattle.types.proofs.reading.opens.Given as goal

abbrev pub invariant-loop-d : goal.invariant-loop-d
invariant-loop-d l = l.d + opens_of (drop (l.d + l.d) l.s) ≡ opens_of l.s
