-- The fields after a form's word by the form's code. proofs/ShapeLaws.antt: with the code of a word it reads what crates/sheet's
-- `shape_of` reads.
use Rattle.std.specs.Prelude.{ℕ, List, [], ◌∷◌, eqb}
use Rattle.std.proofs.Math.Option.{Option, none, some}
use Rattle.laws.specs.Choice.{on_some}
use Rattle.std.specs.Prelude.{if◌then◌else◌}
use Rattle.sheet.specs.Text.{Bytes}
use Rattle.sheet.specs.Lines.{Shape, FormFields, read_fields, Table, forms}
use Rattle.text.specs.Words.{form_codes}

-- what the word with the code k stands for
unfoldable pub with_code : {A : Type 0} → Table A → List ℕ → ℕ → Option A
with_code [] cs k = none
with_code (x ∷ t) [] k = none
with_code (x ∷ t) (c ∷ cs) k = if eqb k c then some x.1 else with_code t cs k

unfoldable pub fields_by : ℕ → Option FormFields
fields_by = with_code forms form_codes

unfoldable pub shape_by : ℕ → List Bytes → Option Shape
shape_by k fs = on_some (fields_by k) (λ fields. read_fields fields fs)
