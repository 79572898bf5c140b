-- `replay::taking::take_slot` meets its contract. Assumes nothing.
use native.Mathlib.Omega.{arith}
use mathlib.Core.Logic.{⊎_elim}
use mathlib.Core.Path.{◌∙◌}
use Rattle.replay.proofs.TakingLaws.{high_key, high_end, no_cell, slot_took}
use Rattle.replay.proofs.taking.take_slot.Goals as goal

pub returns-then-key-ge-MOST_KEYS : goal.returns-then-key-ge-MOST_KEYS
returns-then-key-ge-MOST_KEYS c = λ w1. high_key _ _ _ c.if-key-ge-MOST_KEYS.true

pub returns-then-to-gt-MOST_CELLS : goal.returns-then-to-gt-MOST_CELLS
returns-then-to-gt-MOST_CELLS c = λ w1. ⊎_elim (high_end _ _ _ (c.wide-to.ensures ∙ c.end_of.ensures)) (λ h. no_cell _ _ _ c.wide-from.ensures (c.wide-to.ensures ∙ c.end_of.ensures) h.1) c.then-to-gt-MOST_CELLS.either

pub returns : goal.returns
returns c = λ w1. slot_took _ _ _ c.wide-from.ensures (c.wide-to.ensures ∙ c.end_of.ensures) (omega arith) (omega arith) (omega arith) c.requires.0 (c.take_cells.ensures w1)
