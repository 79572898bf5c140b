-- `gather` meets its contract. Assumes nothing.
use Rattle.rows.specs.Bits.{bit}
use Rattle.moves.proofs.GatherLaws.{GatheredTo}
use Rattle.moves.proofs.gathered.gather.Given as goal

abbrev pub invariant-loop-r : goal.invariant-loop-r
invariant-loop-r l = GatheredTo l.ends l.n (bit l.new) l.initial.out l.out l.r l.at
