-- `negate` meets its contract.
use Rattle.importer.proofs.NegateLaws.{Negating}
use Rattle.importer.proofs.leaves.negate.Given as goal

abbrev pub invariant-loop-m : goal.invariant-loop-m
invariant-loop-m l = Negating l.k l.n l.initial.w2 l.m l.w2
