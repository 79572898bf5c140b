-- `see_rows` meets its contract. Assumes nothing.
use Rattle.rows.proofs.SeenLaws.{Seeing}
use Rattle.rows.proofs.seen.see_rows.Given as goal

abbrev pub invariant-loop-n : goal.invariant-loop-n
invariant-loop-n l = Seeing l.w1 l.initial.w2 l.w2 l.n
