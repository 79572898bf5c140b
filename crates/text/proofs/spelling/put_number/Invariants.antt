-- `put_number` meets its contract. All but the last k digits are written, and what is left is spelled by these. Assumes nothing.
use Rattle.text.proofs.DigitLaws.{Powers, NumberTo}
use Rattle.text.proofs.spelling.put_number.Given as goal

abbrev pub invariant-loop-k : goal.invariant-loop-k
invariant-loop-k l = Powers l.powers × NumberTo l.n l.at l.initial.out l.out l.k l.e l.rest
