-- Document 01, The sheet and Calls, and document 02, F-7: a text is read line by line, to a sheet or to a refusal with its number and line.
use Rattle.std.specs.Prelude.{ℕ, suc, Bool, true, false, List, [], ◌∷◌, length, ltb}
use Rattle.std.proofs.Math.Option.{Option, none, some}
use Rattle.std.specs.Prelude.{if◌then◌else◌}
use Rattle.sheet.specs.Sizes.{most_bytes}
use Rattle.sheet.specs.Text.{Bytes, lines_of, fields_of}
use Rattle.sheet.specs.Lines.{Line, line_of, in_body}
use Rattle.sheet.specs.Texts.{brackets_within, is_sentence, on_text}
use Rattle.sheet.specs.Sheet.{Sheet, empty, added, end_rule}
use Rattle.sheet.specs.Limits.{within_limits}
use Rattle.sheet.specs.Refusals.{in_order, parts_known, calls_smaller, calls_known, suits, tree_holds}

-- one line: the sheet with it, or a refusal's number
pub data Step : Type 0 where
  taken : Sheet → Step
  refuse : ℕ → Step

-- what must hold, the number where it does not, and what follows where it does
unfoldable pub must : Bool → ℕ → Step → Step
must true n x = x
must false n x = refuse n

-- "line by line 3 to 8 in number order", 23 "ranked after 6" and 24 "ranked after 23"; k is the line's number
unfoldable pub step_line : Sheet → ℕ → Line → Step
step_line s k l =
    must (within_limits s l) 4 (must (in_order s l) 5 (must (parts_known s l) 6 (must (calls_smaller s l) 23 (must (calls_known s l) 24
    (must (suits s l) 7 (must (tree_holds s l) 8 (taken (added s k l))))))))

-- 3 where the fields spell no line; document 02, F-7: a text's brackets (4), then 20, "ranked straight after 3"
unfoldable pub step_spelled : Sheet → ℕ → Option Line → Step
step_spelled s k none = refuse 3
step_spelled s k (some l) = must (on_text l brackets_within) 4 (must (on_text l is_sentence) 20 (step_line s k l))

unfoldable pub step : Sheet → ℕ → List Bytes → Step
step s k fields = step_spelled s k (line_of fields)

-- a whole text: a sheet (the text is accepted, in document 01's word), or a refusal's number and line
pub data Reading : Type 0 where
  accepted : Sheet → Reading
  rejected : ℕ → ℕ → Reading

-- after line k, whose refusal has that line as its place
unfoldable pub on_step : Step → ℕ → (Sheet → Reading) → Reading
on_step (taken s) k f = f s
on_step (refuse n) k f = rejected n k

-- a definition or rule that ends badly is 8 at its last line, k: "rule ends (place: the rule's last line) before the next line"
unfoldable pub on_end : Option Sheet → ℕ → (Sheet → Reading) → Reading
on_end none k f = rejected 8 k
on_end (some s) k f = f s

-- "A rule ends with the text or before a line whose first field isn't `N`", or `X` (document 02, F-7); a definition likewise. k lines
-- stand before this one
unfoldable pub closing : Sheet → ℕ → List Bytes → (Sheet → Reading) → Reading
closing s k fields f = if in_body fields then f s else on_end (end_rule s) k f

-- the text's last part is empty, else it is a line with "no line feed": 3
unfoldable pub read_last : ℕ → Bytes → Sheet → Reading
read_last k [] s = accepted s
read_last k (b ∷ l) s = rejected 3 (suc k)

-- the parts after k lines; there is one at least, so that [] is never asked for
unfoldable pub read_lines : Sheet → ℕ → List Bytes → Reading
read_lines s k [] = accepted s
read_lines s k (l ∷ []) = closing s k (fields_of l) (read_last k l)
read_lines s k (l ∷ m ∷ ls) = closing s k (fields_of l) (λ t. on_step (step t (suc k) (fields_of l)) (suc k) (λ u. read_lines u (suc k) (m ∷ ls)))

-- 2, "over 49,152 bytes"
unfoldable pub read_text : Bytes → Reading
read_text text = if ltb most_bytes (length text) then rejected 2 0 else read_lines empty 0 (lines_of text)

-- the sheet of an accepted text; nothing is asked of another
unfoldable pub sheet_from : Reading → Sheet
sheet_from (accepted s) = s
sheet_from (rejected n k) = empty

unfoldable pub sheet_in : Bytes → Sheet
sheet_in text = sheet_from (read_text text)
