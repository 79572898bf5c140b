-- `variable` meets its contract. Assumes nothing.
use mathlib.Core.Path.{refl}
use native.Mathlib.Omega.{arith}
use Rattle.operations.proofs.LeafLaws.{variable_free, variable_above, variable_done}
use Rattle.operations.proofs.leaves.variable.Goals as goal
use Rattle.operations.proofs.leaves.variable.Goals.{then-at-eq0-via-then-at-eq0, then-at-eq0-via-else-at-eq0+then-sp-at}

pub returns-then-at-eq0 : goal.returns-then-at-eq0
returns-then-at-eq0 c =
    elim c.then-at-eq0.branch [
      | then-at-eq0-via-then-at-eq0 w ↦ variable_free w.if-at-eq0.true
      | then-at-eq0-via-else-at-eq0+then-sp-at w ↦ variable_above w.if-at-eq0.false refl (omega (arith, w.if-sp-at.true))
    ]

pub returns : goal.returns
returns c = variable_done c.if-at-eq0.false refl _ (omega arith) c.push_copy.ensures c.formed.ensures
