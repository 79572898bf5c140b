-- The words that are copied so far.
use Rattle.rules.proofs.Marks.{Copying}
use Rattle.rules.proofs.all.keep_marks.Given as goal

abbrev pub invariant-loop-p : goal.invariant-loop-p
invariant-loop-p l = Copying l.w2 l.initial.w1 l.p l.w1
