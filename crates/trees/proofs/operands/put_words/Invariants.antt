-- `put_words` meets its contract.
use Rattle.trees.specs.Operands.{shifted, WroteWords}
use Prim.Native.Nat.{◌≤◌, ◌*◌}
use Rattle.trees.proofs.operands.put_words.Given as goal

abbrev pub invariant-loop-k : goal.invariant-loop-k
invariant-loop-k l = WroteWords (8 * l.m) l.k (shifted l.words l.count l.first) l.initial.w1 l.w1 × (l.k ≤ 8)
