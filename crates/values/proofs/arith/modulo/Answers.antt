-- `values::arith::modulo` meets its contract. Assumes nothing.
use native.Mathlib.Omega.{arith}
use Rattle.values.proofs.Arithmetic.{distance_some, rest_small, mod_by_zero, mod_is}
use Rattle.values.proofs.arith.modulo.Goals as goal

pub returns-then-b-eq-ZERO : goal.returns-then-b-eq-ZERO
returns-then-b-eq-ZERO c = mod_by_zero c.if-b-eq-ZERO.true

pub nonzero_rem-distance : goal.nonzero_rem-distance
nonzero_rem-distance c = let m = distance_some _ c.if-b-eq-ZERO.false in omega arith

pub toward-requires : goal.toward-requires
toward-requires c = omega (arith, rest_small _ c.distance.result _ c.distance-2.ensures (omega arith) c.if-b-eq-ZERO.false)

pub returns : goal.returns
returns c = search mod_is
