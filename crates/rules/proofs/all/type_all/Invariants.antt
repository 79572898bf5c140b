-- `type_all` meets its contract. Assumes nothing.
use Rattle.rules.proofs.AllLaws.{TypedTo}
use Rattle.rules.proofs.all.type_all.Given as goal

abbrev pub invariant-loop-r : goal.invariant-loop-r
invariant-loop-r l = TypedTo l.st l.w0 l.w1 l.initial.w2 l.w2 l.r
