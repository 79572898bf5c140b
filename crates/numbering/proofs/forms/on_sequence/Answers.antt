-- `on_sequence` meets its contract. Assumes nothing.
use Rattle.numbering.proofs.Findings.{on_refused, on_typed}
use Rattle.numbering.proofs.forms.on_sequence.Goals as goal

pub returns-in_default : goal.returns-in_default
returns-in_default c = on_refused _ _ _ _ _ _ c.source_type.ensures.0 c.in_default.is

pub returns : goal.returns
returns c = on_typed _ _ _ _ _ _ c.source_type.ensures.0 c.in-Ok.is c.outer_code.ensures
