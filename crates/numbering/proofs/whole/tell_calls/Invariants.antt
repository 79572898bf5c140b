-- `tell_calls` meets its contract. Assumes nothing.
use Rattle.numbering.proofs.Roots.{Telling}
use Rattle.numbering.proofs.whole.tell_calls.Given as goal

abbrev pub invariant-loop-n : goal.invariant-loop-n
invariant-loop-n l = Telling l.w0 l.classes l.rows l.initial.w1 l.w1 l.initial.w2 l.w2 l.n
