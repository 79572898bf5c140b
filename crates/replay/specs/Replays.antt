-- What the code promises of an edit of a board: for every board that lies in the words, the sheet with the edit made lies in w0, or the
-- edit is refused as the definition says; whatever the words hold, some accepted sheet lies there.
use Rattle.std.specs.Prelude.{◌≡◌, List, ◌++◌, ℕ, ◌≤◌, ◌<◌, get_or, Result, Ok, Err}
use Rattle.std.proofs.Math.Option.{Option, some}
use Rattle.memory.specs.Lines as lines
use Rattle.ocl.specs.Types.{Ty}
use Rattle.sheet.specs.Sizes.{most_rows, most_values}
use Rattle.sheet.specs.Text.{Bytes, fields_of}
use Rattle.sheet.specs.Sheet.{Slot, Sheet}
use Rattle.sheet.specs.Reading.{Step, taken, refuse}
use Rattle.sheet.specs.Calls.{refusal_at}
use Rattle.board.specs.Edits.{Edit, edit_of, read_edit, slot_for, edited}
use Rattle.board.specs.Board.{Board, valued}
use Rattle.board.specs.Calls.{answered, edit_on}
use Rattle.board.specs.Laws.{take_slots}
use Rattle.tables.specs.declared.Counts.{Counts}
use Rattle.tables.specs.Layout.{Holds, Fine, Kept}
use Rattle.slots.specs.Slots.{SmallRows}
use Rattle.rules.specs.Accepted.{Accepted}
use Rattle.board_words.specs.Layout.{BoardLies}
use Rattle.replay.specs.Slots.{SlotsAt, FirstFrom, after_in}
use Rattle.memory.specs.declared.refusals.Refusal.{Refusal}
use Rattle.memory.specs.Refusals.{number}

-- the counts of a sheet that has been read to its last block
abbrev pub last_counts : Counts → Counts
last_counts st = record {
  block = lines.rules;
  classes = st.classes;
  rows = st.rows;
  objects = st.objects;
  slots = st.slots;
  cells = st.cells;
  nodes = st.nodes;
  definitions = st.definitions;
  rules = st.rules;
  «open» = st.open;
  context = st.context;
  result = st.result;
  first = st.first;
}

-- the slots in the words that come before the key, and those that come after it
pub record Parted (words : List ℕ) (key : ℕ) (xs ys : List Slot) : Type 0 where
  pub few : get_or words 0 0 ≤ most_values
  pub place : ℕ
  pub first : FirstFrom words (get_or words 0 0) key place
  pub before : SlotsAt words (get_or words 0 0) place 0 xs
  pub after : SlotsAt words (get_or words 0 0) (get_or words 0 0) (after_in words (get_or words 0 0) place key) ys

-- the line is an edit
pub record Spelled (line : Bytes) : Type 0 where
  pub edit : Edit
  pub is : edit_of (fields_of line) ≡ some edit

-- a step of the code and a step of the definition; which number refuses does not matter, since it becomes 21
pub data Comes (w0 w1 : List ℕ) : Result Counts Refusal → Step → Type 0 where
  comes_next : {st : Counts} {s : Sheet} → Fine st → Holds st w0 w1 s → Comes w0 w1 (Ok st) (taken s)
  comes_stop : {e : Refusal} {n : ℕ} → Comes w0 w1 (Err e) (refuse n)

pub record Replaying (line : Bytes) (key : ℕ) (words : List ℕ) (st : Counts) (r : Result Counts Refusal) (w0 w1 v0 : List ℕ) : Type 0 where
  pub is : (s : Sheet) (e : Edit) (xs ys : List Slot) → Holds st w0 w1 s → SmallRows s → edit_of (fields_of line) ≡ some e → Parted words key xs ys
      → Comes v0 w1 r (take_slots s (xs ++ slot_for e.object e.row e.value ++ ys))
  pub found : {su : Counts} → r ≡ Ok su → (xs : List Slot) × ((ys : List Slot) × Parted words key xs ys)
  pub kept : Kept w0 v0

-- refused at place 1; or made, with the slots xs on the sheet s, whose rules have the types ts
pub data ReplayedAs (edit : Option Edit) (words : List ℕ) (s : Sheet) (ts : List Ty) (v0 w1 : List ℕ) : Result (Counts × ℕ) Refusal → Type 0 where
  refused : {e : Refusal} → ((b : Board) → BoardLies words s b → (room : ℕ) → edit_on room s b edit ≡ refusal_at (number e) 1) → ReplayedAs edit words s ts v0 w1 (Err e)
  replayed : {st : Counts} (e : Edit) (xs : List Slot) → edit ≡ some e → e.row < most_rows → Accepted st v0 w1 (valued s xs) ts
      → ((b : Board) → BoardLies words s b → (xs ≡ edited b.slots e) × ((room : ℕ) → edit_on room s b edit ≡ answered room s b e))
      → ReplayedAs edit words s ts v0 w1 (Ok (st, e.row))

-- the edit's line without its line feed
pub record EditTook (line : Bytes) (words : List ℕ) (st : Counts) (r : Result (Counts × ℕ) Refusal) (w0 w1 v0 : List ℕ) : Type 0 where
  pub is : (s : Sheet) (ts : List Ty) → Accepted st w0 w1 s ts → ReplayedAs (edit_of (fields_of line)) words s ts v0 w1 r
  pub kept : Kept w0 v0

-- the edit as it is lent
pub record Replays (line : Bytes) (words : List ℕ) (st : Counts) (w0 w1 v0 : List ℕ) (r : Result (Counts × ℕ) Refusal) : Type 0 where
  pub is : (s : Sheet) (ts : List Ty) → Accepted st w0 w1 s ts → ReplayedAs (read_edit line) words s ts v0 w1 r
  pub kept : Kept w0 v0
