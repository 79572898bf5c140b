-- `opens` meets its contract. The loop's invariant: the brackets passed and those that lead what is left are all that lead.
use native.Mathlib.Omega.{arith}
use mathlib.Core.Path.{◌≡◌, ◌∙◌}
use Prim.Native.Nat.{◌/◌}
use lib.ListN.{length}
use Rattle.types.proofs.TypeFields.{opens_stop, opens_more, opens_end}
use Rattle.types.proofs.reading.opens.Goals as goal

pub returns-then-s-d-ne40 : goal.returns-then-s-d-ne40
returns-then-s-d-ne40 c = record { is = opens_stop _ _ c.loop-d.invariant c.if-s-d-ne40.true; within = omega arith }

pub loop-d-preserved : goal.loop-d-preserved
loop-d-preserved c = opens_more _ _ c.loop-d.invariant (omega arith) c.if-s-d-ne40.false

pub returns : goal.returns
returns c =
    let d = c.loop-d.d in
    let e : length c.args.s.now / 2 ≡ d = omega arith in
    record { is = e ∙ opens_end _ d c.loop-d.invariant (omega arith); within = omega arith }
