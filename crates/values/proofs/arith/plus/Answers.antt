-- `values::arith::plus` meets its contract. Assumes nothing.
use native.Mathlib.Omega.{arith}
use Rattle.values.proofs.Arithmetic.{plus_low, plus_is, plus_high}
use Rattle.values.proofs.arith.plus.Goals as goal

pub returns-in-Some : goal.returns-in-Some
returns-in-Some c = let h = c.in-Some.ensures in plus_is c.in-Some.n (omega arith) c.if-n-lt-END.true

pub returns-in_default : goal.returns-in_default
returns-in_default c = let h = c.in-Some.ensures in plus_high (omega arith)

pub returns-in_default-2 : goal.returns-in_default-2
returns-in_default-2 c = let h = c.in_default.ensures in plus_low (omega arith)
