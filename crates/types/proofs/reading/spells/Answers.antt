-- `spells` meets its contract.
use mathlib.Core.Path.{sym, ◌∙◌}
use Rattle.types.proofs.Closing.{spells_off, spells_on}
use Rattle.types.proofs.reading.spells.Goals as goal

pub returns-then-starts_with : goal.returns-then-starts_with
returns-then-starts_with c = c.closes.ensures ∙ spells_on c.args.w.now _ c.args.s.now (sym c.if-starts_with.true ∙ c.starts_with.ensures.value)

pub returns-else-starts_with : goal.returns-else-starts_with
returns-else-starts_with c = c.if-starts_with.false ∙ spells_off c.args.w.now _ c.args.s.now (sym c.if-starts_with.false ∙ c.starts_with.ensures.value)
