-- `put_opening` meets its contract.
use native.Mathlib.Omega.{arith}
use Prim.Native.Nat.{ℕ}
use mathlib.Core.List.{[], ◌∷◌}
use mathlib.Core.Path.{ap}
use Rattle.text.proofs.WrittenLaws.{puts_then, puts_as}
use Rattle.types.specs.Written.{opening}
use Rattle.types.proofs.spelling.put_opening.Goals as goal

pub returns : goal.returns
unfolding opening
returns c = puts_as (puts_then c.put_byte-e.ensures c.put_byte.ensures (omega (arith, c.requires))) (ap (λ (l : ℕ). l ∷ 40 ∷ []) c.letter_byte.ensures)
