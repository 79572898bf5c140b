-- `bring_all` meets its contract. Assumes nothing.
use Rattle.operations.proofs.BringLaws.{Bringing}
use Rattle.operations.proofs.collect.bring_all.Given as goal

abbrev pub invariant-loop-q : goal.invariant-loop-q
invariant-loop-q l = Bringing l.st l.tables l.i l.from l.end l.initial.stack l.stack l.q l.len
