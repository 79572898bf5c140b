-- Document 02, F-12: "renumber the objects by any permutation throughout the sheet and put lines and members back in order": the lines
-- of a sheet with its objects numbered anew.
use Rattle.std.specs.Prelude.{Bool, List, [], ◌∷◌, ◌++◌, ℕ, zero, suc, length, get_or, leb, ltb}
use Rattle.std.proofs.Math.Option.{Option, none, some}
use Rattle.laws.specs.Choice.{on_some, map_some}
use Rattle.std.specs.Prelude.{if◌then◌else◌}
use Rattle.sheet.specs.Text.{Bytes, lines_of, fields_of}
use Rattle.sheet.specs.Lines.{Line, class_line, row_line, object_line, value_line, definition_line, rule_line, node_line, text_line, line_of}
use Rattle.sheet.specs.Sheet.{Slot}
use Rattle.sheet.specs.Refusals.{block_of, after_slots}
use Rattle.profile.specs.Renumbering.{renumbered}

-- ---- a text as the lines that it spells; none where one is not well spelled or has no line feed

unfoldable pub at_last : Bytes → Option (List Line)
at_last [] = some []
at_last (b ∷ l) = none

unfoldable pub lines_from : List Bytes → Option (List Line)
lines_from [] = none
lines_from (l ∷ []) = at_last l
lines_from (l ∷ m ∷ ls) = on_some (line_of (fields_of l)) (λ x. map_some (λ xs. x ∷ xs) (lines_from (m ∷ ls)))

unfoldable pub lines_in : Bytes → Option (List Line)
lines_in text = lines_from (lines_of text)

-- ---- the parts of a sheet's lines

-- the lines of some blocks
unfoldable pub of_blocks : (ℕ → Bool) → List Line → List Line
of_blocks f [] = []
of_blocks f (x ∷ ls) = if f (block_of x) then x ∷ of_blocks f ls else of_blocks f ls

-- C and A lines, and D, R, N and X lines
abbrev pub early : List Line → List Line
early ls = of_blocks (λ b. ltb b 2) ls

abbrev pub late : List Line → List Line
late ls = of_blocks (λ b. leb 4 b) ls

-- the class of each O line
unfoldable pub objects_in : List Line → List ℕ
objects_in [] = []
objects_in (class_line n p ∷ ls) = objects_in ls
objects_in (row_line n c name t ∷ ls) = objects_in ls
objects_in (object_line n c ∷ ls) = c ∷ objects_in ls
objects_in (value_line o a v ∷ ls) = objects_in ls
objects_in (definition_line n c t ∷ ls) = objects_in ls
objects_in (rule_line n c ∷ ls) = objects_in ls
objects_in (node_line n x ∷ ls) = objects_in ls
objects_in (text_line x ∷ ls) = objects_in ls

-- the V lines
unfoldable pub slots_in : List Line → List Slot
slots_in [] = []
slots_in (class_line n p ∷ ls) = slots_in ls
slots_in (row_line n c name t ∷ ls) = slots_in ls
slots_in (object_line n c ∷ ls) = slots_in ls
slots_in (value_line o a v ∷ ls) = record { object = o; row = a; value = v } ∷ slots_in ls
slots_in (definition_line n c t ∷ ls) = slots_in ls
slots_in (rule_line n c ∷ ls) = slots_in ls
slots_in (node_line n x ∷ ls) = slots_in ls
slots_in (text_line x ∷ ls) = slots_in ls

-- ---- numbered anew: `to` is the new number of an object, `back` the old one

-- the first n objects' classes
unfoldable pub renumbered_objects : (ℕ → ℕ) → List ℕ → ℕ → List ℕ
renumbered_objects back classes zero = []
renumbered_objects back classes (suc n) = renumbered_objects back classes n ++ (get_or classes (back n) 0 ∷ [])

-- a V line among others, which ascend, in its place
unfoldable pub put_slot : Slot → List Slot → List Slot
put_slot x [] = x ∷ []
put_slot x (y ∷ ys) = if after_slots (y ∷ []) x.object x.row then y ∷ put_slot x ys else x ∷ y ∷ ys

unfoldable pub renumbered_slot : (ℕ → ℕ) → Slot → Slot
renumbered_slot to x = record { object = to x.object; row = x.row; value = renumbered to x.value }

unfoldable pub renumbered_slots : (ℕ → ℕ) → List Slot → List Slot
renumbered_slots to [] = []
renumbered_slots to (x ∷ xs) = put_slot (renumbered_slot to x) (renumbered_slots to xs)

-- O lines from number n on, and V lines
unfoldable pub object_lines_from : ℕ → List ℕ → List Line
object_lines_from n [] = []
object_lines_from n (c ∷ cs) = object_line n c ∷ object_lines_from (suc n) cs

unfoldable pub value_lines : List Slot → List Line
value_lines [] = []
value_lines (x ∷ xs) = value_line x.object x.row x.value ∷ value_lines xs

-- O and V lines numbered anew and back in order; C, A, D, R, N and X lines name no object and stay
unfoldable pub renumbered_lines : (ℕ → ℕ) → (ℕ → ℕ) → List Line → List Line
renumbered_lines to back ls =
    early ls ++ (object_lines_from 0 (renumbered_objects back (objects_in ls) (length (objects_in ls)))
    ++ (value_lines (renumbered_slots to (slots_in ls)) ++ late ls))
