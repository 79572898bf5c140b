-- `digit_count` meets its contract. The number has k digits or more. Assumes nothing.
use Prim.Native.Nat.{◌≤◌}
use lib.ListN.{length}
use Rattle.sheet.specs.Text.{spell_number}
use Rattle.text.proofs.DigitLaws.{Powers}
use Rattle.text.proofs.spelling.digit_count.Given as goal

abbrev pub invariant-loop-k : goal.invariant-loop-k
invariant-loop-k l = Powers l.powers × (1 ≤ l.k) × (l.k ≤ 20) × (l.k ≤ length (spell_number l.n))
