-- `again_lines` meets its contract. Assumes nothing.
use Rattle.renewal.proofs.AgainLaws.{AgainTo}
use Rattle.renewal.proofs.again.again_lines.Given as goal

abbrev pub invariant-loop-o : goal.invariant-loop-o
invariant-loop-o l = AgainTo l.st l.w0 l.w1 l.r l.at l.initial.w2 l.w2 l.initial.out l.out l.o l.end
