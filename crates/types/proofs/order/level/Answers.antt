-- `level` meets its contract.
use mathlib.Core.Path.{sym, ◌∙◌}
use Rattle.types.proofs.Levels.{level_ends, level_void, level_none, level_both}
use Rattle.types.proofs.order.level.Goals as goal

pub returns-then-l-eq0 : goal.returns-then-l-eq0
returns-then-l-eq0 c = search level_ends

pub returns-then-k-eq0 : goal.returns-then-k-eq0
returns-then-k-eq0 c = search level_void

pub returns-then-l-eq0-2 : goal.returns-then-l-eq0-2
returns-then-l-eq0-2 c = search level_none

pub returns-then-letter_below : goal.returns-then-letter_below
returns-then-letter_below c = level_both _ _ _ _ _ c.if-k-eq0.false c.if-l-eq0-2.false _ (sym c.if-letter_below.true ∙ c.letter_below.ensures)

pub returns-else-letter_below : goal.returns-else-letter_below
returns-else-letter_below c = c.if-letter_below.false ∙ level_both _ _ _ _ c.args.more c.if-k-eq0.false c.if-l-eq0-2.false _ (sym c.if-letter_below.false ∙ c.letter_below.ensures)
