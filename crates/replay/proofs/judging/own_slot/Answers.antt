-- `replay::judging::own_slot` meets its contract. Assumes nothing.
use mathlib.Core.Path.{sym, ◌∙◌}
use Rattle.replay.proofs.JudgingLaws.{own_cleared, own_value}
use Rattle.replay.proofs.judging.own_slot.Goals as goal

pub returns-then-clears : goal.returns-then-clears
returns-then-clears c = λ w1. own_cleared c.requires.1 c.requires.3.fine (sym c.clears.ensures ∙ c.if-clears.true)

pub returns : goal.returns
returns c = λ w1. own_value c.requires.1 (sym c.clears.ensures ∙ c.if-clears.false) (c.value_line.ensures w1 1)
