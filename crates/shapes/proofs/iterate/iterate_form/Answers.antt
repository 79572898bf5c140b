-- `iterate_form` meets its contract.
use Rattle.shapes.proofs.IterateLaws.{iterate_not, iterate_bad, iterate_read, field_type, field_held}
use Rattle.shapes.proofs.FieldLaws.{rest_not}
use mathlib.Core.Path.{◌≡◌, refl}
use mathlib.Core.Bool.{true, false, ◌&&◌}
use native.Mathlib.Omega.{arith}
use Rattle.shapes.proofs.iterate.iterate_form.Goals as goal
use Rattle.shapes.proofs.iterate.iterate_form.Goals.{else-head-via-then-head+then-of+else-tail, else-head-via-then-head+else-of, else-head-via-else-head}

pub returns-then-f-ne9 : goal.returns-then-f-ne9
returns-then-f-ne9 c = rw (iterate_not _ (rest_not c.requires.0 6 (omega arith) c.requires.1 c.if-f-ne9.true)) (c.misspelled.ensures _)

pub type_read-of-requires : goal.type_read-of-requires
type_read-of-requires c = search field_held

pub returns-then-tail : goal.returns-then-tail
returns-then-tail c =
    let told : (c.number_fields-head.result.good && c.type_read-of.result.spelled && c.number_fields-tail.result.good) ≡ true = rw (c.if-head.true, c.if-of.true, c.if-tail.true) in
    iterate_read refl c.requires.0 c.if-f-ne9.false c.number_fields-head.ensures (field_type _ c.field.ensures c.read_type.ensures c.type_read-of.ensures) c.number_fields-tail.ensures told c.iterated.ensures

pub returns-else-head : goal.returns-else-head
returns-else-head c =
    let told : (c.number_fields-head.result.good && c.type_read-of.result.spelled && c.number_fields-tail.result.good) ≡ false = elim c.else-head.branch [
      | else-head-via-then-head+then-of+else-tail w ↦ rw (w.if-head.true, w.if-of.true, w.if-tail.false)
      | else-head-via-then-head+else-of w ↦ rw (w.if-head.true, w.if-of.false)
      | else-head-via-else-head w ↦ rw w.if-head.false
    ] in
    iterate_bad refl c.requires.0 c.if-f-ne9.false c.number_fields-head.ensures (field_type _ c.field.ensures c.read_type.ensures c.type_read-of.ensures) c.number_fields-tail.ensures told (c.misspelled-else-head.ensures _)
