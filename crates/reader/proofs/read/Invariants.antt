-- The loop's invariant: `Going` of proofs/Loop.antt. What is left of the text falls. Assumes nothing.
use lib.ListN.{length}
use Rattle.reader.proofs.Loop.{Going}
use Rattle.reader.proofs.read.Given as goal

abbrev pub invariant-loop-e : goal.invariant-loop-e
invariant-loop-e l = Going l.text l.initial.w0 l.initial.w1 l.initial.w2 l.w0 l.w1 l.w2 l.rest l.st l.k l.e

abbrev pub decreases-loop-e : goal.decreases-loop-e
decreases-loop-e l = length l.rest
