-- `close_lets` meets its contract.
use Rattle.importer.proofs.CloseLaws.{Closing}
use Rattle.importer.proofs.lets.close_lets.Given as goal

abbrev pub invariant-loop-i : goal.invariant-loop-i
invariant-loop-i l = Closing l.k l.from l.nodes l.lets l.initial.w2 l.n l.i l.w2
