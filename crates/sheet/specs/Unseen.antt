-- Document 02, F-9: "What a rule cannot see", stated from the bytes over what evaluate answers; and that the lines which tell a rule's rows
-- are those rows.
use Rattle.std.specs.Prelude.{◌≡◌, Bool, false, not, List, [], ◌∷◌, map, ℕ, suc, ◌<◌, length}
use Rattle.std.proofs.Math.Option.{Option, none, some}
use Rattle.std.proofs.Math.ListN.{get_elem?}
use Rattle.std.specs.Prelude.{if◌then◌else◌}
use Rattle.laws.specs.Lists.{member}
use Rattle.sheet.specs.Text.{Bytes, byte, split, lines_of, fields_of, spell_number}
use Rattle.sheet.specs.Lines.{Line, class_line, row_line, object_line, value_line, definition_line, rule_line, node_line, text_line, line_of}
use Rattle.sheet.specs.Sheet.{Rule, Sheet}
use Rattle.sheet.specs.Reading.{sheet_in}
use Rattle.sheet.specs.Calls.{words_after, output_after, read_call, evaluate_call}
use Rattle.sheet.specs.Rows.{rows_seen, rows_into, rows_call, rows_program}
use Rattle.sheet.specs.Soundness.{Lent}
use Rattle.sheet.specs.Sizes.{program_output}

-- the rows that rule r sees; none where there is no such rule
unfoldable pub seen_by : Sheet → Option Rule → List ℕ
seen_by s none = []
seen_by s (some x) = rows_seen s x

unfoldable pub rows_seen_in : Bytes → ℕ → List ℕ
rows_seen_in text r = seen_by (sheet_in text) (get_elem? (sheet_in text).rules r)

-- ---- "two accepted sheets that differ only in the V lines of rows that no node of a rule was resolved to"

-- is it the V line of another row
unfoldable pub sets_other : List ℕ → Option Line → Bool
sets_other rows none = false
sets_other rows (some (class_line n p)) = false
sets_other rows (some (row_line n c name t)) = false
sets_other rows (some (object_line n c)) = false
sets_other rows (some (value_line o a v)) = not (member a rows)
sets_other rows (some (definition_line n c t)) = false
sets_other rows (some (rule_line n c)) = false
sets_other rows (some (node_line n x)) = false
sets_other rows (some (text_line x)) = false

-- the lines but for the V lines of other rows
unfoldable pub lines_but : List ℕ → List Bytes → List Bytes
lines_but rows [] = []
lines_but rows (l ∷ ls) = if sets_other rows (line_of (fields_of l)) then lines_but rows ls else l ∷ lines_but rows ls

-- V lines of other rows may be added, left out or have other values; all other lines are the same, byte for byte and in the same order
abbrev pub DifferOnly : List ℕ → Bytes → Bytes → Type 0
DifferOnly rows text other = lines_but rows (lines_of text) ≡ lines_but rows (lines_of other)

-- ---- "for every object the rule gives the same number, value and steps on both"

pub record UnseenBy (text other : Bytes) (r : ℕ) (w0 w1 w2 : List ℕ) (out : Bytes) (v0 v1 v2 : List ℕ) (put : Bytes) : Type 0 where
  -- on both the rule sees the same rows
  pub same_rows : rows_seen_in other r ≡ rows_seen_in text r
  -- number, steps, place and bytes, and so the length, whatever each call is lent
  pub same_answer : (o : ℕ) → evaluate_call text r o w0 w1 w2 out ≡ evaluate_call other r o v0 v1 v2 put
  -- and what they leave of the same words and of the same output
  pub same_words : (o : ℕ) (w : List ℕ)
      → words_after (evaluate_call text r o w0 w1 w2 out) w ≡ words_after (evaluate_call other r o v0 v1 v2 put) w
  pub same_output : (o : ℕ) (b : Bytes)
      → output_after (evaluate_call text r o w0 w1 w2 out) b ≡ output_after (evaluate_call other r o v0 v1 v2 put) b

abbrev pub UnseenLaw : Type 0
UnseenLaw =
    (text : Bytes) (w0 w1 w2 : List ℕ) (out : Bytes) → Lent w0 w1 w2 out → (read_call text w0 w1 w2 out).number ≡ 0
    → (other : Bytes) (v0 v1 v2 : List ℕ) (put : Bytes) → Lent v0 v1 v2 put → (read_call other v0 v1 v2 put).number ≡ 0
    → (r : ℕ) → DifferOnly (rows_seen_in text r) text other
    → UnseenBy text other r w0 w1 w2 out v0 v1 v2 put

-- ---- the lines of the program that prints rows are exactly these rows

-- each number is greater than the one before it
pub data Ascends : List ℕ → Type 0 where
  ascends_nil : Ascends []
  ascends_one : {i : ℕ} → Ascends (i ∷ [])
  ascends_cons : {i j : ℕ} {is : List ℕ} → i < j → Ascends (j ∷ is) → Ascends (i ∷ j ∷ is)

-- a line of rule r, parted by spaces
pub record SaysRows (seen : List ℕ) (r : ℕ) (line : Bytes) : Type 0 where
  pub rows : List ℕ
  pub parts : split (byte " ") line ≡ map spell_number (r ∷ rows)
  pub ascend : Ascends rows
  pub exact : (i : ℕ) → member i rows ≡ member i seen

pub record SaysRule (text : Bytes) (output : Bytes) (r : ℕ) (x : Rule) : Type 0 where
  pub line : Bytes
  pub there : get_elem? (lines_of output) r ≡ some line
  pub says : SaysRows (rows_seen (sheet_in text) x) r line

-- an answer has a line for each rule, in their order, and no other
pub record RowsSaid (text : Bytes) (output : Bytes) : Type 0 where
  pub each_rule : (r : ℕ) (x : Rule) → get_elem? (sheet_in text).rules r ≡ some x → SaysRule text output r x
  -- nothing stands behind the last line feed
  pub as_many : length (lines_of output) ≡ suc (length (sheet_in text).rules)
  pub ended : get_elem? (lines_of output) (length (sheet_in text).rules) ≡ some []

abbrev pub RowsExact : Type 0
RowsExact =
    (text : Bytes) (w0 w1 w2 : List ℕ) (out : Bytes) → (rows_call text w0 w1 w2 out).number ≡ 0
    → RowsSaid text (rows_call text w0 w1 w2 out).output

abbrev pub RowsPrinted : Type 0
RowsPrinted = (text : Bytes) → (rows_into text program_output).number ≡ 0 → RowsSaid text (rows_program text)
