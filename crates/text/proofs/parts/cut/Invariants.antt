-- `cut` meets its contract. The first k fields lie where the ends say, and the rest of the line is the rest of the fields. Assumes nothing.
use Rattle.text.proofs.PartLaws.{CutTo}
use Rattle.text.proofs.parts.cut.Given as goal

abbrev pub invariant-loop-k : goal.invariant-loop-k
invariant-loop-k l = CutTo l.line l.k l.at l.ends
