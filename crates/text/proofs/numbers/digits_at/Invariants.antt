-- `digits_at` meets its contract. The digits from i on end where those from `at` on end, and after the number so far they stand for
-- the same number, both cut at the bound. Assumes nothing.
use Prim.Native.Nat.{◌≤◌, ◌+◌, min}
use mathlib.Core.Path.{◌≡◌}
use lib.ListN.{length, drop}
use Rattle.sheet.specs.Text.{digits, value_of_digits}
use Rattle.text.proofs.numbers.digits_at.Given as goal

abbrev pub invariant-loop-i : goal.invariant-loop-i
invariant-loop-i l = record {
  ends : l.i + length (digits (drop l.i l.s)) ≡ l.at + length (digits (drop l.at l.s));
  small : l.n ≤ 10000000000;
  value : min (value_of_digits l.n (digits (drop l.i l.s))) 10000000000 ≡ min (value_of_digits 0 (digits (drop l.at l.s))) 10000000000;
}
