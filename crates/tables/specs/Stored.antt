-- What typing and evaluation find in the tables of an accepted sheet: a model's classes, rows, objects and values.
use Rattle.std.specs.Prelude.{◌≡◌, List, ℕ, suc, ◌+◌, ◌*◌, ◌≤◌, ◌<◌, get_or, ltb, eqb}
use Rattle.std.proofs.Math.Option.{Option, none, some}
use Rattle.std.proofs.Math.Seq.{slice}
use Rattle.std.specs.Prelude.{if◌then◌else◌}
use Rattle.memory.specs.Map as memory
use Rattle.ocl.specs.Values.{Value}
use Rattle.ocl.specs.Model.{Model, schema_of}
use Rattle.sheet.specs.Sizes.{most_rows}
use Rattle.values.specs.Cells.{enc, Fits}
use Rattle.nodes.specs.Classes.{HoldsClasses}
use Rattle.tables.specs.declared.Counts.{Counts}
use Rattle.tables.specs.Layout.{tab}

-- slot j's key: its object times 64, and its row
abbrev pub key_at : List ℕ → ℕ → ℕ
key_at w0 j = get_or w0 (memory.keys + j) 0

-- where slot j's cells start and end in w0
abbrev pub start_at : List ℕ → ℕ → ℕ
start_at w0 j = memory.cells + get_or w0 (memory.starts + j) 0

abbrev pub end_at : Counts → List ℕ → ℕ → ℕ
end_at st w0 j = if eqb (suc j) st.slots then memory.cells + st.cells else start_at w0 (suc j)

-- the value of row i for object o, if there is one
pub data Stored (st : Counts) (w0 : List ℕ) (o i : ℕ) : Option Value → Type 0 where
  no_slot : ((j : ℕ) → j < st.slots → key_at w0 j ≡ o * most_rows + i → ⊥) → Stored st w0 o i none
  slot : (j : ℕ) {v : Value} → j < st.slots → key_at w0 j ≡ o * most_rows + i → start_at w0 j ≤ end_at st w0 j → end_at st w0 j ≤ memory.cells_end
      → slice (start_at w0 j) (end_at st w0 j) w0 ≡ enc v → Fits v → Stored st w0 o i (some v)

pub record HoldsModel (st : Counts) (w0 : List ℕ) (m : Model) : Type 0 where
  pub classes : HoldsClasses (tab memory.parents st.classes w0) (tab memory.owners st.rows w0) (tab memory.names st.rows w0) (tab memory.types st.rows w0) (schema_of m)
  pub row_count : m.row_count ≡ st.rows
  pub object_count : m.object_count ≡ st.objects
  pub class_of : (o : ℕ) → m.class_of o ≡ (if ltb o st.objects then some (get_or w0 (memory.objects + o) 0) else none)
  -- slots ascend
  pub ascending : (j k : ℕ) → j < k → k < st.slots → key_at w0 j < key_at w0 k
  -- of rows that there are
  pub stored : (o i : ℕ) → i < most_rows → Stored st w0 o i (m.value_of o i)
