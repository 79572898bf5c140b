-- `leading` meets its contract. What was taken off and what is left make the number. Assumes nothing.
use Rattle.text.proofs.DigitLaws.{LeadTo}
use Rattle.text.proofs.spelling.leading.Given as goal

abbrev pub invariant-loop-rest : goal.invariant-loop-rest
invariant-loop-rest l = LeadTo l.n l.p l.digit l.rest

abbrev pub decreases-loop-rest : goal.decreases-loop-rest
decreases-loop-rest l = l.rest
