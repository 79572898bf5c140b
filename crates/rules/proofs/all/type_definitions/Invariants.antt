-- `type_definitions` meets its contract. Assumes nothing.
use Rattle.rules.proofs.DefineLaws.{DefinedTo}
use Rattle.rules.proofs.all.type_definitions.Given as goal

abbrev pub invariant-loop-d : goal.invariant-loop-d
invariant-loop-d l = DefinedTo l.st l.w0 l.w1 l.initial.w2 l.w2 l.d
