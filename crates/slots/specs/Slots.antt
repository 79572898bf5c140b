-- What a V line's code asks of the tables and promises. A slot's key is its object times 64 and its row, which tells the two
-- apart only where rows are below 64: so the promise is for sheets whose rows are. Every sheet that is read is such: crates/sheet, proofs/Good.antt.
use Rattle.std.specs.Prelude.{◌≡◌, Bool, true, List, ℕ, zero, suc, ◌+◌, ◌<◌, min, get_or, take, drop, ltb, Result}
use Rattle.std.proofs.Math.Seq.{slice}
use Rattle.laws.specs.Lists.{Each}
use Rattle.memory.specs.Map as memory
use Rattle.memory.specs.Lines as lines
use Rattle.ocl.specs.Values.{Value, size}
use Rattle.sheet.specs.Sizes.{most_rows}
use Rattle.sheet.specs.Text.{Bytes, fields_of}
use Rattle.sheet.specs.Lines.{Line, value_line}
use Rattle.sheet.specs.Sheet.{Slot, Sheet}
use Rattle.sheet.specs.Limits.{value_within}
use Rattle.sheet.specs.Reading.{step, step_line}
use Rattle.values.specs.Cells.{enc, Fits}
use Rattle.tables.specs.declared.Counts.{Counts}
use Rattle.tables.specs.Layout.{Holds, Kept, Moved}
use Rattle.slots.specs.Machine.{ReadIs}
use Rattle.memory.specs.declared.refusals.Misread.{Misread}
use Rattle.memory.specs.declared.refusals.Refusal.{Refusal}

-- each slot's row is below 64
pub record SmallRows (s : Sheet) : Type 0 where
  pub rows : Each (λ (x : Slot). x.row < most_rows) s.slots

-- the value of a field behind the first n cells; the words before them and after the cells are as they were
pub record ReadInto (f : Bytes) (n : ℕ) (before after : List ℕ) (r : Result ℕ Misread) : Type 0 where
  pub front : take (memory.cells + n) after ≡ take (memory.cells + n) before
  pub back : drop memory.cells_end after ≡ drop memory.cells_end before
  pub is : ReadIs f (slice (memory.cells + n) memory.cells_end after) r

-- the last of n keys is below this one
unfoldable pub last_before : List ℕ → ℕ → ℕ → Bool
last_before w zero key = true
last_before w (suc n) key = ltb (get_or w (memory.keys + n) 0) key

-- v lies behind the cells so far
pub record ValueAt (st : Counts) (w0 : List ℕ) (n : ℕ) (v : Value) : Type 0 where
  pub fits : Fits v
  pub lies : slice (memory.cells + st.cells) (memory.cells + st.cells + n) w0 ≡ enc v

-- what a test says of the line
pub record SlotAnswer (test : Sheet → Line → Bool) (st : Counts) (w0 : List ℕ) (o a n : ℕ) (r : Bool) : Type 0 where
  pub is : (w1 : List ℕ) (s : Sheet) (v : Value) → Holds st w0 w1 s → SmallRows s → ValueAt st w0 n v → r ≡ test s (value_line o a v)

-- one slot more, of n cells
abbrev pub slot_counts : Counts → ℕ → Counts
slot_counts st n = record {
  block = lines.values;
  classes = st.classes;
  rows = st.rows;
  objects = st.objects;
  slots = st.slots + 1;
  cells = st.cells + n;
  nodes = st.nodes;
  definitions = st.definitions;
  rules = st.rules;
  «open» = st.open;
  context = st.context;
  result = st.result;
  first = st.first;
}

-- the line with the object o', the row a' and the value of n cells; the code has o' and a' as o and a, a million at most
pub record SlotTook (st : Counts) (k o a n : ℕ) (r : Result Counts Refusal) (w0 w1 v0 : List ℕ) : Type 0 where
  pub is : (s : Sheet) (o' a' : ℕ) (v : Value) → Holds st w0 w1 s → SmallRows s → ValueAt st w0 n v → n ≡ size v → value_within v ≡ true
      → o ≡ min o' 1000000 → a ≡ min a' 1000000 → Moved v0 w1 r (step_line s k (value_line o' a' v))
  pub kept0 : Kept w0 v0

-- as crates/tables' Took
pub record TookSlot (st : Counts) (k : ℕ) (line : Bytes) (r : Result Counts Refusal) (w0 w1 v0 v1 : List ℕ) : Type 0 where
  pub is : (s : Sheet) → Holds st w0 w1 s → SmallRows s → Moved v0 v1 r (step s k (fields_of line))
  pub kept0 : Kept w0 v0
  pub kept1 : Kept w1 v1
