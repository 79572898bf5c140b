-- `replay::edit_line` meets its contract. Assumes nothing.
use native.Mathlib.Omega.{arith}
use mathlib.Core.Path.{ap, ◌∙◌}
use Rattle.sheet.specs.Text.{fields_of}
use Rattle.text.specs.Words.{byte_kind, only_byte}
use Rattle.text.proofs.PartLaws.{counted_some}
use Rattle.replay.proofs.EditLineLaws.{value_letter, not_value}
use Rattle.replay.proofs.edit_line.Goals as goal

pub field-requires : goal.field-requires
field-requires c = (c.cut-f.ensures, counted_some c.cut-f.ensures, omega arith)

pub returns-then-byte_kind-ne-VALUE_LINE : goal.returns-then-byte_kind-ne-VALUE_LINE
returns-then-byte_kind-ne-VALUE_LINE c = not_value (c.byte_kind.ensures ∙ ap byte_kind (c.letter.ensures ∙ ap only_byte c.field.ensures)) c.if-byte_kind-ne-VALUE_LINE.true

pub edit_slots-requires : goal.edit_slots-requires
edit_slots-requires c = (c.cut-f.ensures, value_letter (fields_of c.args.own.now) (c.byte_kind.ensures ∙ ap byte_kind (c.letter.ensures ∙ ap only_byte c.field.ensures)) (omega arith), c.requires.0, c.requires.1, c.requires.2)
