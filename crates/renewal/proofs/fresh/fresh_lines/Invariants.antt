-- `fresh_lines` meets its contract. Assumes nothing.
use Rattle.renewal.proofs.FreshLaws.{ObjectsTo}
use Rattle.renewal.proofs.fresh.fresh_lines.Given as goal

abbrev pub invariant-loop-o : goal.invariant-loop-o
invariant-loop-o l = ObjectsTo l.st l.w0 l.w1 l.r l.initial.sums l.initial.w2 l.w2 l.initial.buf l.buf l.o l.sums
