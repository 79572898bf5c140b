-- `replay::judging::judge` meets its contract. Assumes nothing.
use mathlib.Core.Path.{sym, ◌∙◌}
use Rattle.replay.proofs.judging.judge.Goals as goal

pub judge_clearing-requires : goal.judge_clearing-requires
judge_clearing-requires c = (c.requires.0, c.requires.1, sym c.clears.ensures ∙ c.if-clears.true, c.requires.2, c.requires.3)

pub judge_value-requires : goal.judge_value-requires
judge_value-requires c = (c.requires.0, c.requires.1, sym c.clears.ensures ∙ c.if-clears.false, c.requires.2, c.requires.3)
