-- `slots::line::read_into` meets its contract. Assumes nothing.
use Rattle.slots.proofs.SlotLaws.{read_into}
use borrow.Rule.Slice.PartMut.{mid_len}
use mathlib.Core.Path.{◌∙◌}
use native.Mathlib.Omega.{arith}
use Rattle.memory.specs.Map as memory
use Rattle.slots.proofs.line.read_into.Goals as goal

pub returns : goal.returns
returns c = read_into _ _ _ _ (omega arith) (omega arith) (c.read_value.auto.cells ∙ mid_len _ memory.cells_end _ (omega arith)) c.read_value.ensures
