-- What the code promises of an edit's line by itself.
use Rattle.std.specs.Prelude.{◌≡◌, Bool, ◌&&◌, List, [], ℕ, ◌+◌, ◌*◌, ◌<◌, min, length, get_or, eqb, Result, Ok, Err}
use Rattle.std.proofs.Math.Option.{Option, none, some}
use Rattle.memory.specs.Lines as lines
use Rattle.sheet.specs.Sizes.{most_rows, most_objects}
use Rattle.sheet.specs.Text.{Bytes, bytes, fields_of}
use Rattle.sheet.specs.Lines.{is}
use Rattle.sheet.specs.Sheet.{Sheet}
use Rattle.sheet.specs.Reading.{Step, taken, refuse}
use Rattle.board.specs.Edits.{Edit, edit_of, slot_for, with_slots, judged_value, judged}
use Rattle.board.specs.Laws.{take_slots}
use Rattle.tables.specs.declared.Counts.{Counts}
use Rattle.tables.specs.Layout.{Holds, Kept, Moved}
use Rattle.slots.specs.Slots.{SmallRows}
use Rattle.memory.specs.declared.refusals.Refusal.{Refusal}
use Rattle.memory.specs.Refusals.{number}

-- the counts of the sheet without its values
abbrev pub empty_counts : Counts → Counts
empty_counts st = record {
  block = lines.values;
  classes = st.classes;
  rows = st.rows;
  objects = st.objects;
  slots = 0;
  cells = 0;
  nodes = st.nodes;
  definitions = st.definitions;
  rules = st.rules;
  «open» = lines.nothing_open;
  context = st.context;
  result = st.result;
  first = st.first;
}

-- do the fields have `-` for a value
unfoldable pub clears_line : List Bytes → Bool
clears_line fs = eqb (length fs) 4 && is (get_or fs 3 []) (bytes "-")

-- row a cleared for object o
pub data ClearedAs (s : Sheet) (o a : ℕ) : Result ℕ Refusal → Type 0 where
  cleared : o < most_objects → a < most_rows → judged_value s o a none ≡ taken s → ClearedAs s o a (Ok (o * most_rows + a))
  not_cleared : {e : Refusal} → judged_value s o a none ≡ refuse (number e) → ClearedAs s o a (Err e)

-- the code has o' and a' as o and a, a million at most
pub record ClearingAs (st : Counts) (o a : ℕ) (w0 w1 : List ℕ) (r : Result ℕ Refusal) : Type 0 where
  pub is : (s : Sheet) (o' a' : ℕ) → Holds st w0 w1 s → o ≡ min o' 1000000 → a ≡ min a' 1000000 → ClearedAs s o' a' r

-- a line that is no edit is 3
unfoldable pub judged_edit : Sheet → Option Edit → Step
judged_edit s none = refuse 3
judged_edit s (some e) = judged s e

-- refused; or its key, with the sheet without values in the words
pub data JudgedAs (line : Bytes) (st : Counts) (s : Sheet) (v0 w1 : List ℕ) : Result ℕ Refusal → Type 0 where
  judged_stop : {e : Refusal} → judged_edit s (edit_of (fields_of line)) ≡ refuse (number e) → JudgedAs line st s v0 w1 (Err e)
  judged_key : (e : Edit) (t : Sheet) → edit_of (fields_of line) ≡ some e → judged s e ≡ taken t → e.row < most_rows
      → Holds (empty_counts st) v0 w1 (with_slots s 3 []) → JudgedAs line st s v0 w1 (Ok (e.object * most_rows + e.row))

pub record Judges (line : Bytes) (st : Counts) (r : Result ℕ Refusal) (w0 w1 v0 : List ℕ) : Type 0 where
  pub is : (s : Sheet) → Holds st w0 w1 s → JudgedAs line st s v0 w1 r
  pub kept : Kept w0 v0

-- the edit's slot as a V line, or nothing where it clears
pub record OwnTook (line : Bytes) (st : Counts) (r : Result Counts Refusal) (w0 w1 v0 : List ℕ) : Type 0 where
  pub is : (s : Sheet) (e : Edit) → Holds st w0 w1 s → SmallRows s → edit_of (fields_of line) ≡ some e
      → Moved v0 w1 r (take_slots s (slot_for e.object e.row e.value))
  pub kept : Kept w0 v0
