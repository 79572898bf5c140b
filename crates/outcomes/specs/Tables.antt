-- What the contracts over the tables say: of every model that the words hold.
use Rattle.std.specs.Prelude.{◌≡◌, Bool, false, List, ℕ, suc, ◌+◌, ◌≤◌, ◌<◌, get_or, take, eqb, Option as Optional, Some, None}
use Rattle.std.proofs.Math.Option.{none, some}
use Rattle.std.proofs.Math.Seq.{slice}
use Rattle.std.specs.Prelude.{if◌then◌else◌}
use Rattle.memory.specs.Map as memory
use Rattle.ocl.specs.Types.{class, set}
use Rattle.ocl.specs.Values.{Value, bool, num, obj, coll, size, largest}
use Rattle.ocl.specs.Model.{Model, is_a}
use Rattle.ocl.specs.Forms.{Access}
use Rattle.ocl.specs.Marks.{Mark}
use Rattle.ocl.specs.Operations.{value, has_row, access, instances}
use Rattle.sheet.specs.Sizes.{least_words}
use Rattle.values.specs.Cells.{head, enc, Fits}
use Rattle.values.specs.Meanings.{Forms, SmallForm}
use Rattle.nodes.specs.Marks.{Marked}
use Rattle.tables.specs.declared.Counts.{Counts}
use Rattle.tables.specs.Layout.{Fine}
use Rattle.tables.specs.Stored.{key_at, start_at, end_at, HoldsModel}
use Rattle.outcomes.specs.declared.Ended.{Ended}
use Rattle.outcomes.specs.Answers.{Lies, Ran, SmallAnswer}

-- the counts are within the limits, and the words are as many as are lent
pub record Bounds (st : Counts) (words : ℕ) : Type 0 where
  pub fine : Fine st
  pub lent : least_words ≤ words

-- a row that is not there has owner 0, and no stored value is too large
pub record Plain (st : Counts) (m : Model) : Type 0 where
  pub no_row_lem : (i : ℕ) → st.rows ≤ i → (m.row i).owner ≡ 0
  pub small : (o i : ℕ) (v : Value) → m.value_of o i ≡ some v → size v ≤ largest

pub record IsA (st : Counts) (w0 : List ℕ) (o c : ℕ) (r : Bool) : Type 0 where
  pub is : (m : Model) → HoldsModel st w0 m → r ≡ is_a m o (class c)

pub record Owner (st : Counts) (w0 : List ℕ) (i r : ℕ) : Type 0 where
  pub is : (m : Model) → HoldsModel st w0 m → Plain st m → r ≡ (m.row i).owner

-- the slot with the key; where slots ascend, there is none if none is found
abbrev pub FindsSlot : List ℕ → ℕ → ℕ → Optional ℕ → Type 0
FindsSlot w0 slots key (Some j) = (j < slots) × (key_at w0 j ≡ key)
FindsSlot w0 slots key None =
    ((j k : ℕ) → j < k → k < slots → key_at w0 j < key_at w0 k) → (j : ℕ) → j < slots → key_at w0 j ≡ key → ⊥

-- where slot j's cells start among the cells, and where the last slot's end
abbrev pub cells_start : Counts → List ℕ → ℕ → ℕ
cells_start st w0 j = if eqb st.slots j then st.cells else get_or w0 (memory.starts + j) 0

-- slot j holds the value
pub record SlotHolds (st : Counts) (w0 : List ℕ) (j : ℕ) (v : Value) : Type 0 where
  pub there : j < st.slots
  pub within : end_at st w0 j ≤ memory.cells_end
  pub cells : slice (start_at w0 j) (end_at st w0 j) w0 ≡ enc v
  pub fits : Fits v

-- slot j's value stands at sp
pub record SlotStands (st : Counts) (w0 : List ℕ) (j sp s : ℕ) (B A : List ℕ) (r : Ended) : Type 0 where
  pub small : SmallAnswer r
  pub is : (v : Value) → SlotHolds st w0 j v → size v ≤ largest → Ran (value v s) sp B A r

-- is the value an object of class c or below
unfoldable pub object_of : Model → ℕ → Value → Bool
object_of m c (bool b) = false
object_of m c (num x) = false
object_of m c (obj o) = is_a m o (class c)
object_of m c (coll k vs) = false

-- is the value with this first cell one
pub record IsObject (st : Counts) (w0 : List ℕ) (c cell : ℕ) (r : Bool) : Type 0 where
  pub is : (m : Model) → HoldsModel st w0 m → (v : Value) → Fits v → cell ≡ head v → r ≡ object_of m c v

-- does the value with this first cell have row i
pub record HasRow (st : Counts) (w0 : List ℕ) (i cell : ℕ) (r : Bool) : Type 0 where
  pub is : (m : Model) → HoldsModel st w0 m → Plain st m → (v : Value) → Fits v → cell ≡ head v → r ≡ has_row m i v

-- the slot that holds the value of row i for the object with this cell; nowhere if there is none
abbrev pub RowSlot : Counts → List ℕ → ℕ → ℕ → Optional ℕ → Type 0
RowSlot st w0 i cell (Some j) =
    (j < st.slots) × ((m : Model) → HoldsModel st w0 m → (o : ℕ) → Fits (obj o) → cell ≡ head (obj o) → (v : Value) × ((m.value_of o i ≡ some v) × SlotHolds st w0 j v))
RowSlot st w0 i cell None = (m : Model) → HoldsModel st w0 m → (o : ℕ) → Fits (obj o) → cell ≡ head (obj o) → m.value_of o i ≡ none

-- `attr` or `collect`, by the word that the node is marked with, over the value at sp
pub record Accesses (x : Access) (st : Counts) (w0 : List ℕ) (mark sp len s : ℕ) (B A : List ℕ) (r : Ended) : Type 0 where
  pub small : SmallAnswer r
  pub ran : (m : Model) → HoldsModel st w0 m → Plain st m → (k : Mark) → Marked mark k → (v : Value) → Lies v sp len B
      → Ran (access m x k v s) sp B A r

-- the Set of a class's objects before o, with o
pub record WithObject (st : Counts) (w0 : List ℕ) (c sp len o : ℕ) (B A : List ℕ) (r : Optional ℕ) : Type 0 where
  pub small : SmallForm r
  pub is : (m : Model) → HoldsModel st w0 m → Lies (coll set (instances m c o)) sp len B → Forms (coll set (instances m c (suc o))) sp (take sp B) A r

-- the Set of a class's objects at sp
pub record Instances (st : Counts) (w0 : List ℕ) (c sp : ℕ) (B A : List ℕ) (r : Optional ℕ) : Type 0 where
  pub small : SmallForm r
  pub is : (m : Model) → HoldsModel st w0 m → Forms (coll set (instances m c m.object_count)) sp (take sp B) A r
