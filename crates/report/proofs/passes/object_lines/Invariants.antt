-- `object_lines` meets its contract. Assumes nothing.
use Rattle.report.proofs.PassLaws.{LinesTo}
use Rattle.report.proofs.passes.object_lines.Given as goal

abbrev pub invariant-loop-o : goal.invariant-loop-o
invariant-loop-o l = LinesTo l.origins l.st l.w0 l.w1 l.r l.keep l.total l.initial.w2 l.w2 l.initial.out l.out l.o l.sum
