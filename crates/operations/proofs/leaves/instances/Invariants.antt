-- `operations::leaves::instances` meets its contract. Assumes nothing.
use Rattle.operations.proofs.LeafLaws.{Gathered}
use Rattle.operations.proofs.leaves.instances.Given as goal

abbrev pub invariant-loop-o : goal.invariant-loop-o
invariant-loop-o l = Gathered l.st l.tables l.c l.sp l.initial.stack l.stack l.len l.o
