-- `mark` meets its contract.
use Rattle.trees.specs.Operands.{marking}
use Rattle.shapes.specs.Forms.{operands_at}
use lib.ListN.{length, drop}
use mathlib.Core.Path.{◌≡◌}
use Rattle.trees.proofs.operands.mark.Given as goal

abbrev pub invariant-loop-a : goal.invariant-loop-a
invariant-loop-a l = (marking l.first l.n l.deepest (drop l.a-index l.a-items) l.w1 ≡ marking l.first l.n 0 (operands_at l.fn.words l.count) l.initial.w1) × (l.a-items ≡ operands_at l.fn.words l.count) × (length l.w1 ≡ length l.initial.w1)
