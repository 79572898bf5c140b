-- `collection_form` meets its contract.
use Rattle.text.specs.Words.{only_byte}
use Rattle.shapes.specs.Forms.{kind_byte_code}
use native.Mathlib.Omega.{arith}
use mathlib.Core.Path.{ap, ◌∙◌}
use Rattle.shapes.proofs.LiteralLaws.{assemble_none, assemble_over, assemble_other, assemble_bad, assemble_read}
use Rattle.shapes.proofs.FieldLaws.{rest_cons, rest_short, rest_long, rest_length, rest_part}
use Rattle.shapes.proofs.forms.collection_form.Goals as goal
use Rattle.shapes.proofs.forms.collection_form.Goals.{then-count-lt4-via-then-count-lt4, then-count-lt4-via-else-count-lt4+then-count-gt8}

pub returns-then-count-lt4 : goal.returns-then-count-lt4
returns-then-count-lt4 c = elim c.then-count-lt4.branch [
  | then-count-lt4-via-then-count-lt4 w ↦ rw (assemble_none _ (rest_short c.requires.0 c.requires.1 w.if-count-lt4.true)) (c.misspelled.ensures _)
  | then-count-lt4-via-else-count-lt4+then-count-gt8 w ↦ rw (assemble_over _ (rest_long c.requires.0 w.if-count-gt8.true)) (c.misspelled.ensures _)
]

pub returns-then-code-eq0 : goal.returns-then-code-eq0
returns-then-code-eq0 c = rw (rest_cons c.requires.0 c.if-count-lt4.false, assemble_other _ _ (c.kind_code-code.ensures ∙ ap (λ x. kind_byte_code (only_byte x)) c.field.ensures) c.if-code-eq0.true) (c.misspelled-then-code-eq0.ensures _)

pub returns-then-not-n : goal.returns-then-not-n
returns-then-not-n c = rw (rest_cons c.requires.0 c.if-count-lt4.false, assemble_bad _ _ (c.kind_code-code.ensures ∙ ap (λ x. kind_byte_code (only_byte x)) c.field.ensures) c.if-code-eq0.false (rest_length c.requires.0 c.if-count-gt8.false) (omega arith) (rest_part c.requires.0 c.if-count-gt8.false c.number_fields-n.ensures) c.if-not-n.true) (c.misspelled-then-not-n.ensures _)

pub returns : goal.returns
returns c = rw (rest_cons c.requires.0 c.if-count-lt4.false) (assemble_read _ _ (c.kind_code-code.ensures ∙ ap (λ x. kind_byte_code (only_byte x)) c.field.ensures) c.if-code-eq0.false (rest_length c.requires.0 c.if-count-gt8.false) (omega arith) (rest_part c.requires.0 c.if-count-gt8.false c.number_fields-n.ensures) c.if-not-n.false c.assembled.ensures)
