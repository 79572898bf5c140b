-- `short_lent` meets its contract.
use mathlib.Core.Path.{refl, sym, ◌∙◌}
use Rattle.sheet.specs.Calls.{short_output}
use Rattle.opening.proofs.short_lent.Goals as goal

pub returns-then-short : goal.returns-then-short
returns-then-short c = c.if-short.true ∙ rw (sym c.short.ensures ∙ c.if-short.true) refl

pub returns-else-short : goal.returns-else-short
unfolding short_output
returns-else-short c = rw (sym c.short.ensures ∙ c.if-short.false) refl
