-- `slots::parts::number_part` meets its contract. Assumes nothing.
use mathlib.Core.Path.{◌≡◌}
use Rattle.memory.specs.declared.refusals.Misread.TheVariants.{OverLimit}
use Rattle.slots.proofs.parts.number_part.Goals as goal

pub returns-in-Err-OverLimit : goal.returns-in-Err-OverLimit
returns-in-Err-OverLimit c =
    let e : c.in-Err-OverLimit.field-0 ≡ OverLimit = rw c.in-Err-OverLimit.is at c.in-Err-OverLimit.field-0-is in
    rw (c.in-Err-OverLimit.is, e)
