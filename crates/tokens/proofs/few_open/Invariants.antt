-- `few_open` meets its contract: few are open by bytes, or what is left of the text tells what the whole does. Assumes nothing.
use Prim.Native.Nat.{◌-◌}
use lib.ListN.{length}
use Rattle.tokens.proofs.BracketLaws.{FewLeft}
use Rattle.tokens.proofs.few_open.Given as goal

abbrev pub invariant-loop-t : goal.invariant-loop-t
invariant-loop-t l = FewLeft l.s l.depth l.t

abbrev pub decreases-loop-t : goal.decreases-loop-t
decreases-loop-t l = length l.s - l.t.start
