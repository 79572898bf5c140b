-- The slots that words hold, whatever the words are, and what the code promises that takes them as V lines.
use Rattle.std.specs.Prelude.{◌≡◌, true, ◌&&◌, List, [], ◌∷◌, ℕ, ◌+◌, ◌*◌, ◌<◌, ◌≤◌, get_or, eqb, ltb, Result, Ok}
use Rattle.std.proofs.Math.Seq.{slice}
use Rattle.std.specs.Prelude.{if◌then◌else◌}
use Rattle.memory.specs.Map as memory
use Rattle.sheet.specs.Sizes.{most_cells, most_rows, most_objects}
use Rattle.sheet.specs.Lines.{value_line}
use Rattle.sheet.specs.Sheet.{Slot, Sheet}
use Rattle.sheet.specs.Limits.{value_within}
use Rattle.sheet.specs.Reading.{step_line}
use Rattle.board.specs.Laws.{take_slots}
use Rattle.values.specs.Cells.{enc, Fits}
use Rattle.tables.specs.declared.Counts.{Counts}
use Rattle.tables.specs.Layout.{slot_key, Holds, Fine, Kept, Moved}
use Rattle.slots.specs.Slots.{SmallRows}
use Rattle.replay.specs.Values.{Whole}
use Rattle.memory.specs.declared.refusals.Refusal.{Refusal}

-- a sheet lies in the words, to which V lines may be added
pub record Lying (st : Counts) (w0 : List ℕ) : Type 0 where
  pub w1 : List ℕ
  pub sheet : Sheet
  pub holds : Holds st w0 w1 sheet
  pub small : SmallRows sheet
  pub fine : Fine st

-- where the cells of slot j of n end: where those of the next one start, or behind the last cell
unfoldable pub end_in : List ℕ → ℕ → ℕ → ℕ
end_in words n j = if eqb (j + 1) n then get_or words 1 0 else get_or words (memory.starts + (j + 1)) 0

-- keys are below this
abbrev pub most_keys : ℕ
most_keys = most_objects * most_rows

-- slot j of n is x
pub record SlotAt (words : List ℕ) (n j : ℕ) (x : Slot) : Type 0 where
  pub row : x.row < most_rows
  pub key : get_or words (memory.keys + j) 0 ≡ slot_key x
  pub low : slot_key x < most_keys
  pub fits : Fits x.value
  pub within : value_within x.value ≡ true
  pub up : get_or words (memory.starts + j) 0 < end_in words n j
  pub room : end_in words n j ≤ most_cells
  pub cells : slice (memory.cells + get_or words (memory.starts + j) 0) (memory.cells + end_in words n j) words ≡ enc x.value

-- the slots from i to k
pub data SlotsAt (words : List ℕ) (n k : ℕ) : ℕ → List Slot → Type 0 where
  none_left : {i : ℕ} → i ≡ k → SlotsAt words n k i []
  one_more : {i : ℕ} {x : Slot} {xs : List Slot} → i < k → SlotAt words n i x → SlotsAt words n k (i + 1) xs → SlotsAt words n k i (x ∷ xs)

-- p of n slots come before the key
pub record FirstFrom (words : List ℕ) (n key p : ℕ) : Type 0 where
  pub low : p ≤ n
  pub below : (j : ℕ) → j < p → get_or words (memory.keys + j) 0 < key
  pub at : p < n → key ≤ get_or words (memory.keys + p) 0

-- the first that comes after it
unfoldable pub after_in : List ℕ → ℕ → ℕ → ℕ → ℕ
after_in words n p key = if ltb p n && eqb (get_or words (memory.keys + p) 0) key then p + 1 else p

-- the slot with this key and these cells
pub record CellsTook (cells : List ℕ) (key : ℕ) (st : Counts) (r : Result Counts Refusal) (w0 w1 v0 : List ℕ) : Type 0 where
  pub is : (s : Sheet) (x : Slot) → Holds st w0 w1 s → SmallRows s → key ≡ slot_key x → x.row < most_rows → Fits x.value → value_within x.value ≡ true
      → cells ≡ enc x.value → Moved v0 w1 r (step_line s 1 (value_line x.object x.row x.value))
  pub found : {su : Counts} → r ≡ Ok su → Whole cells
  pub kept : Kept w0 v0

-- slot j of n
pub record SlotReplayed (words : List ℕ) (n j : ℕ) (st : Counts) (r : Result Counts Refusal) (w0 w1 v0 : List ℕ) : Type 0 where
  pub is : (s : Sheet) (x : Slot) → Holds st w0 w1 s → SmallRows s → SlotAt words n j x
      → Moved v0 w1 r (step_line s 1 (value_line x.object x.row x.value))
  pub found : {su : Counts} → r ≡ Ok su → (x : Slot) × SlotAt words n j x
  pub kept : Kept w0 v0

-- the slots from one number to another
pub record SlotsReplayed (words : List ℕ) (n from to : ℕ) (st : Counts) (r : Result Counts Refusal) (w0 w1 v0 : List ℕ) : Type 0 where
  pub is : (s : Sheet) (xs : List Slot) → Holds st w0 w1 s → SmallRows s → SlotsAt words n to from xs → Moved v0 w1 r (take_slots s xs)
  pub found : {su : Counts} → r ≡ Ok su → (xs : List Slot) × SlotsAt words n to from xs
  pub kept : Kept w0 v0
