-- `same` meets its contract. What is left of both is equal exactly if both are. Assumes nothing.
use mathlib.Core.Path.{◌≡◌}
use lib.ListN.{drop}
use Rattle.sheet.specs.Lines.{is}
use Rattle.text.proofs.words.same.Given as goal

abbrev pub invariant-loop-i : goal.invariant-loop-i
invariant-loop-i l = is (drop l.i l.f) (drop l.i l.w) ≡ is l.f l.w
