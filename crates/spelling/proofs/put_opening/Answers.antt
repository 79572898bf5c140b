-- `put_opening` meets its contract. Assumes nothing.
use native.Mathlib.Omega.{arith}
use Rattle.text.proofs.WrittenLaws.{puts_then}
use Rattle.spelling.proofs.put_opening.Goals as goal

pub returns : goal.returns
returns c k e = rw (← (c.letter.ensures k e)) (puts_then c.put_byte-bracket.ensures c.put_byte.ensures (omega (arith, c.requires)))
