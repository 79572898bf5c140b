-- `node_rows` meets its contract: what is gathered, with what is left, is the whole. Assumes nothing.
use Rattle.rows.proofs.SeenLaws.{Gathers}
use Rattle.rows.proofs.seen.node_rows.Given as goal

abbrev pub invariant-loop-k : goal.invariant-loop-k
invariant-loop-k l = Gathers l.w1 l.w2 l.n l.k-end l.k l.seen
