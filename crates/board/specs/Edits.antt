-- Document 02, F-10: "An edit is a V line .., or a V line with `-` for clearing". How it is read, when it is refused, and what it makes of
-- a sheet's slots.
use Rattle.std.specs.Prelude.{ℕ, Bool, ◌&&◌, ◌||◌, List, [], ◌∷◌, ◌++◌, length, eqb, leb, ltb}
use Rattle.std.proofs.Math.Option.{Option, none, some}
use Rattle.laws.specs.Choice.{map_some}
use Rattle.std.specs.Prelude.{if◌then◌else◌}
use Rattle.ocl.specs.Types.{class}
use Rattle.ocl.specs.Values.{Value}
use Rattle.ocl.specs.Model.{is_a}
use Rattle.sheet.specs.Sizes.{most_rows, most_objects, most_values, most_cells}
use Rattle.sheet.specs.Text.{Bytes, bytes, lines_of, fields_of}
use Rattle.sheet.specs.Spelling.{read_value}
use Rattle.sheet.specs.Lines.{is, next, done, a_number, value_line}
use Rattle.sheet.specs.Sheet.{Slot, Sheet, model_of}
use Rattle.sheet.specs.Limits.{total_size}
use Rattle.sheet.specs.Reading.{Step, taken, must, step_line}

-- the value that a row gets for an object, or none, which clears it
pub record Edit : Type 0 where
  pub object : ℕ
  pub row : ℕ
  pub value : Option Value

-- ---- its bytes

-- `-` or a value
unfoldable pub a_value_or_none : Bytes → Option (Option Value)
a_value_or_none f = if is f (bytes "-") then some none else map_some some (read_value f)

-- `V o a v` or `V o a -`; "other lines are 3"
unfoldable pub edit_of : List Bytes → Option Edit
edit_of [] = none
edit_of (w ∷ fs) =
    if is w (bytes "V")
    then next a_number (λ o. next a_number (λ a. next a_value_or_none (λ v. done (record { object = o; row = a; value = v })))) fs
    else none

-- the parts of one line with its line feed: the line, and nothing behind it
unfoldable pub one_line : List Bytes → Option Edit
one_line [] = none
one_line (l ∷ []) = none
one_line (l ∷ [] ∷ []) = edit_of (fields_of l)
one_line (l ∷ [] ∷ m ∷ ls) = none
one_line (l ∷ (b ∷ m) ∷ ls) = none

unfoldable pub read_edit : Bytes → Option Edit
read_edit line = one_line (lines_of line)

-- ---- the slots with the edit made

-- the slot of an object and a row, where there is a value
unfoldable pub slot_for : ℕ → ℕ → Option Value → List Slot
slot_for o a none = []
slot_for o a (some v) = record { object = o; row = a; value = v } ∷ []

-- does the slot come before (o, a)
unfoldable pub comes_before : Slot → ℕ → ℕ → Bool
comes_before x o a = ltb x.object o || eqb x.object o && ltb x.row a

-- the slots before (o, a)
unfoldable pub slots_before : List Slot → ℕ → ℕ → List Slot
slots_before [] o a = []
slots_before (x ∷ xs) o a = if comes_before x o a then x ∷ slots_before xs o a else []

-- and those after it; slots ascend, so that the one at (o, a) is the first that does not come before
unfoldable pub slots_after : List Slot → ℕ → ℕ → List Slot
slots_after [] o a = []
slots_after (x ∷ xs) o a =
    if comes_before x o a then slots_after xs o a
    else if eqb x.object o && eqb x.row a then xs
    else x ∷ xs

unfoldable pub edited : List Slot → Edit → List Slot
edited xs e =
    slots_before xs e.object e.row ++ slot_for e.object e.row e.value ++ slots_after xs e.object e.row

-- one after the other
unfoldable pub all_edited : List Slot → List Edit → List Slot
all_edited xs [] = xs
all_edited xs (e ∷ es) = all_edited (edited xs e) es

-- ---- its refusals

-- the sheet with these slots; the last block begun is given, and nothing is open
unfoldable pub with_slots : Sheet → ℕ → List Slot → Sheet
with_slots s block slots = record {
  block = block;
  parents = s.parents;
  rows = s.rows;
  objects = s.objects;
  slots = slots;
  lines = s.lines;
  definitions = s.definitions;
  rules = s.rules;
  current = none;
}

-- "3, 4, 5 (members only), 6 and 7 apply in a sheet's order": a value is judged as the V line is on a sheet that has no value yet, so that
-- 4 counts no other value and 5 asks for its members alone
unfoldable pub judged_value : Sheet → ℕ → ℕ → Option Value → Step
judged_value s o a (some v) = step_line (with_slots s 3 []) 1 (value_line o a v)
-- clearing: numbers within their limits (4), on the sheet (6), and the object of the row's class or below (7)
judged_value s o a none =
    must (ltb o most_objects && ltb a most_rows) 4 (must (ltb o (length s.objects) && ltb a (length s.rows)) 6
    (must (is_a (model_of s) o (class ((model_of s).row a).owner)) 7 (taken s)))

unfoldable pub judged : Sheet → Edit → Step
judged s e = judged_value s e.object e.row e.value

-- 21, "when the slots after the edit would exceed 1,024 lines or total size 2,048"
unfoldable pub has_room : List Slot → Bool
has_room xs = leb (length xs) most_values && leb (total_size xs) most_cells
