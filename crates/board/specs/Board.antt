-- Document 02, F-10: "A running board, made from an accepted sheet, holds the sheet's slots and the last verdict of each rule and object".
use Rattle.std.specs.Prelude.{ℕ, zero, suc, ◌+◌, List, [], ◌∷◌, length}
use Rattle.std.specs.Prelude.{if◌then◌else◌}
use Rattle.laws.specs.Lists.{member, concat}
use Rattle.ocl.specs.Types.{class}
use Rattle.ocl.specs.Model.{is_a}
use Rattle.ocl.specs.Operations.{steps_of}
use Rattle.sheet.specs.Text.{Bytes}
use Rattle.sheet.specs.Sheet.{Slot, Rule, Sheet, model_of}
use Rattle.sheet.specs.Calls.{outcome_of}
use Rattle.sheet.specs.Report.{object_lines}
use Rattle.sheet.specs.Rows.{rows_seen}
use Rattle.board.specs.Edits.{Edit, edited, with_slots}

pub record Board : Type 0 where
  pub slots : List Slot
  -- of each rule the verdicts for its objects, as the report's lines have them
  pub verdicts : List Bytes

-- "all verdicts": the lines of all rules
unfoldable pub all_verdicts : Board → Bytes
all_verdicts b = concat b.verdicts

-- the sheet with other slots, after its last block
unfoldable pub valued : Sheet → List Slot → Sheet
valued s xs = with_slots s 5 xs

-- the verdicts of the rules from number r on
unfoldable pub verdicts_from : Sheet → ℕ → List Rule → List Bytes
verdicts_from s r [] = []
verdicts_from s r (x ∷ xs) = object_lines s r x (length s.objects) ∷ verdicts_from s (suc r) xs

unfoldable pub made : Sheet → Board
made s = record { slots = s.slots; verdicts = verdicts_from s 0 s.rules }

-- ---- an edit of row a, on the sheet with the slots after it

-- "Exactly the rules that were resolved to the edited row are evaluated again .., and the others keep their verdict bytes"; a board has
-- verdicts for each rule, so that a rule without is never asked for
unfoldable pub renewed : Sheet → ℕ → ℕ → List Rule → List Bytes → List Bytes
renewed s a r [] ls = []
renewed s a r (x ∷ xs) [] = []
renewed s a r (x ∷ xs) (l ∷ ls) =
    (if member a (rows_seen s x) then object_lines s r x (length s.objects) else l) ∷ renewed s a (suc r) xs ls

-- a rule's steps for the first n objects, as far as they are of its class or below
unfoldable pub object_steps : Sheet → Rule → ℕ → ℕ
object_steps s x zero = 0
object_steps s x (suc n) = object_steps s x n + (if is_a (model_of s) n (class x.context) then steps_of (outcome_of s x n) else 0)

-- "the answer's steps being theirs added up"
unfoldable pub renewed_steps : Sheet → ℕ → List Rule → ℕ
renewed_steps s a [] = 0
renewed_steps s a (x ∷ xs) =
    (if member a (rows_seen s x) then object_steps s x (length s.objects) else 0) + renewed_steps s a xs

-- the board after an accepted edit
unfoldable pub after : Sheet → Board → Edit → Board
after s b e = record {
  slots = edited b.slots e;
  verdicts = renewed (valued s (edited b.slots e)) e.row 0 s.rules b.verdicts;
}
