-- `row_read` meets its contract: only rows that have the name can be found.
use mathlib.Core.Path.{◌∙◌}
use Rattle.types.proofs.RowLaws.{read_cut}
use Rattle.types.proofs.rows.row_read.Goals as goal

pub returns : goal.returns
returns c = c.nearest.ensures ∙ read_cut _ _ _ _ c.named_end-end.ensures.0 c.named_end-end.ensures.1 _
