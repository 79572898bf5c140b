-- `rules_outside` meets its contract. Assumes nothing.
use Rattle.numbering.proofs.Roots.{Going}
use Rattle.numbering.proofs.whole.rules_outside.Given as goal

abbrev pub invariant-loop-r : goal.invariant-loop-r
invariant-loop-r l = Going l.w0 l.classes l.rows l.w1 l.initial.w2 l.w2 l.r-end l.best l.r
