-- `leading` meets its contract. What was taken off and what is left make the number. Assumes nothing.
use native.Mathlib.Omega.{arith}
use Rattle.text.proofs.DigitLaws.{lead_none, lead_next, lead_digit, lead_all}
use Rattle.text.proofs.spelling.leading.Goals as goal

pub loop-rest-init : goal.loop-rest-init
loop-rest-init c = search lead_none

pub overflow_add-digit : goal.overflow_add-digit
overflow_add-digit c = record { fits = omega (arith, lead_digit _ _ c.requires c.loop-rest.invariant c.loop-rest-test.true) }

pub loop-rest-preserved : goal.loop-rest-preserved
loop-rest-preserved c = search lead_next

pub returns : goal.returns
returns c = search lead_all
