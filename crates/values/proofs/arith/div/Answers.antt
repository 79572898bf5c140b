-- `values::arith::div` meets its contract. Assumes nothing.
use native.Mathlib.Omega.{arith}
use Rattle.values.proofs.Arithmetic.{distance_some, quotient_small, div_by_zero, div_is}
use Rattle.values.proofs.arith.div.Goals as goal

pub returns-then-b-eq-ZERO : goal.returns-then-b-eq-ZERO
returns-then-b-eq-ZERO c = div_by_zero c.if-b-eq-ZERO.true

pub nonzero_div-distance : goal.nonzero_div-distance
nonzero_div-distance c = let m = distance_some _ c.if-b-eq-ZERO.false in omega arith

pub toward-requires : goal.toward-requires
toward-requires c = search quotient_small

pub returns : goal.returns
returns c = search div_is
