-- `skip` meets its contract.
use mathlib.Core.Path.{◌≡◌}
use lib.ListN.{drop}
use Rattle.sheet.specs.Grammar.Tokens.{tokens}
use Rattle.tokens.proofs.cutting.skip.Given as goal

abbrev pub invariant-loop-i : goal.invariant-loop-i
invariant-loop-i l = tokens (drop l.i l.s) ≡ tokens (drop l.at l.s)
