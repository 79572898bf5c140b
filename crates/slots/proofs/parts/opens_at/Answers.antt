-- `slots::parts::opens_at` meets its contract. Assumes nothing.
use mathlib.Core.Path.{ap}
use Prim.Native.Nat.{ℕ}
use Rattle.std.specs.Prelude.{Some}
use Rattle.slots.specs.Parts.{opens}
use Rattle.slots.specs.declared.parts.Part.TheVariants as part
use native.Mathlib.Omega.{arith}
use Rattle.slots.proofs.parts.opens_at.Goals as goal

pub returns-then-f-next-eq40 : goal.returns-then-f-next-eq40
returns-then-f-next-eq40 c = opens _ c.empty_of.ensures (ap (λ (n : ℕ). Some (part.Opens c.empty_of.result n)) (omega arith)) (omega arith) c.if-f-next-eq40.true
