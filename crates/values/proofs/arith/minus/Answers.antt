-- `values::arith::minus` meets its contract. Assumes nothing.
use native.Mathlib.Omega.{arith}
use Rattle.values.proofs.Arithmetic.{minus_low, minus_is, minus_high}
use Rattle.values.proofs.arith.minus.Goals as goal

pub returns-in-Some : goal.returns-in-Some
returns-in-Some c = let h = c.in-Some.ensures in minus_is c.in-Some.n (omega arith) c.if-n-lt-END.true

pub returns-in_default : goal.returns-in_default
returns-in_default c = let h = c.in-Some.ensures in minus_high (omega arith)

pub returns-in_default-2 : goal.returns-in_default-2
returns-in_default-2 c = let h = c.in_default.ensures in minus_low (omega arith)
