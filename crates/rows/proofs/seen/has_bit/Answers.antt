-- `has_bit` meets its contract. Assumes nothing.
use mathlib.Core.Path.{refl}
use Rattle.rows.specs.Bits.{bit}
use Rattle.rows.proofs.seen.has_bit.Goals as goal

pub returns : goal.returns
unfolding bit
returns c = refl
