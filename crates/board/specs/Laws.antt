-- Document 02, F-10: what is proved of the running board, from the bytes of its text.
use Rattle.std.specs.Prelude.{◌≡◌, ◌≢◌, Bool, not, ◌&&◌, ◌||◌, List, [], ◌∷◌, ◌++◌, ℕ, ◌≤◌, length, take, T, eqb, leb}
use Rattle.std.proofs.Math.Option.{none, some}
use Rattle.std.proofs.Math.ListN.{get_elem?}
use Rattle.std.specs.Prelude.{if◌then◌else◌}
use Rattle.laws.specs.Lists.{member}
use Rattle.sheet.specs.Sizes.{most_bytes}
use Rattle.sheet.specs.Text.{Bytes, bytes, lines_of}
use Rattle.sheet.specs.Lines.{value_line}
use Rattle.sheet.specs.Sheet.{Slot, Rule, Sheet, empty, lookup}
use Rattle.sheet.specs.Reading.{Step, taken, refuse, step_line, accepted, read_lines, sheet_in}
use Rattle.sheet.specs.Calls.{Verdict, refusal_at, refusal, output_after}
use Rattle.sheet.specs.Report.{object_lines, rule_lines, fitting, report_of}
use Rattle.sheet.specs.Rows.{rows_seen}
use Rattle.sheet.specs.Unseen.{DifferOnly}
use Rattle.board.specs.Edits.{Edit, read_edit, edited, all_edited, with_slots, has_room}
use Rattle.board.specs.Board.{Board, all_verdicts, valued, verdicts_from, made, renewed_steps, after}
use Rattle.board.specs.Calls.{make_call, edit_call, after_line, After, Layout, Slices, Holds, board_after}

-- ---- what a board is "after every list of accepted edits"

-- "the sheet with those edits made, its byte limit set aside"
unfoldable pub sheet_with : Sheet → List Edit → Sheet
sheet_with s es = valued s (all_edited s.slots es)

-- the V lines of slots, one after the other
unfoldable pub on_taken : Step → (Sheet → Step) → Step
on_taken (taken s) f = f s
on_taken (refuse n) f = refuse n

unfoldable pub take_slots : Sheet → List Slot → Step
take_slots s [] = taken s
take_slots s (x ∷ xs) = on_taken (step_line s 1 (value_line x.object x.row x.value)) (λ t. take_slots t xs)

pub record BoardIs (s : Sheet) (es : List Edit) (b : Board) : Type 0 where
  pub slots : b.slots ≡ all_edited s.slots es
  -- "the board's verdicts equal the report on the sheet with those edits made"
  pub report : all_verdicts b ≡ rule_lines (sheet_with s es) 0 s.rules
  -- and rule by rule, those of rules that kept their bytes too
  pub by_rule : b.verdicts ≡ verdicts_from (sheet_with s es) 0 s.rules
  -- it never grows over 21's limits
  pub room : T (has_room b.slots)
  -- and its slots could stand in a sheet: as V lines, one after the other, they are taken by the sheet without values
  pub as_lines : take_slots (with_slots s 3 []) b.slots ≡ taken (with_slots s 3 b.slots)
  -- what stands for stuck is in no verdict
  pub not_stuck : (x y : Bytes) → all_verdicts b ≢ x ++ (bytes "!100" ++ y)

-- ---- what an edit does to such a board

pub record EditIs (s : Sheet) (b : Board) (e : Edit) : Type 0 where
  -- its object and row have its value or none, all others what they had
  pub values : (o i : ℕ) → lookup (edited b.slots e) o i ≡ (if eqb o e.object && eqb i e.row then e.value else lookup b.slots o i)
  -- a rule that was resolved to the row is evaluated again for all its objects
  pub again : (r : ℕ) (x : Rule) → get_elem? s.rules r ≡ some x → T (member e.row (rows_seen s x))
      → get_elem? (after s b e).verdicts r ≡ some (object_lines (valued s (edited b.slots e)) r x (length s.objects))
  -- any other keeps its bytes
  pub kept : (r : ℕ) (x : Rule) → get_elem? s.rules r ≡ some x → T (not (member e.row (rows_seen s x)))
      → get_elem? (after s b e).verdicts r ≡ get_elem? b.verdicts r
  -- clearing "changes nothing where no value stood", and is never 21
  pub clears_nothing : e.value ≡ none → lookup b.slots e.object e.row ≡ none → after s b e ≡ b
  pub clears_within : e.value ≡ none → T (has_room (edited b.slots e))

pub record BoardLaws : Type 0 where
  pub board_is : (text : Bytes) (w0 w1 w2 words : List ℕ) (out : Bytes) → (make_call text w0 w1 w2 words out).number ≡ 0
      → (es : List Edit) (b : Board) → After (sheet_in text) es b → BoardIs (sheet_in text) es b
  pub edit_is : (text : Bytes) (w0 w1 w2 words : List ℕ) (out : Bytes) → (make_call text w0 w1 w2 words out).number ≡ 0
      → (es : List Edit) (b : Board) → After (sheet_in text) es b → (e : Edit) → EditIs (sheet_in text) b e

-- ---- how an edit ends

-- 3, 4, 5, 6, 7 and 21
unfoldable pub edit_number : ℕ → Bool
edit_number n = leb 3 n && leb n 7 || eqb n 21

pub data EditEnds : Verdict → Type 0 where
  short_lent : EditEnds (refusal 1)
  refused_edit : (n : ℕ) → T (edit_number n) → EditEnds (refusal_at n 1)
  too_long : EditEnds (refusal 18)
  answered_edit : (n : ℕ) (b : Bytes) → EditEnds (record { number = 0; steps = n; place = 0; output = b })

-- on a text whose own refusals are not met
abbrev pub EditNumbers : Type 0
EditNumbers =
    (text : Bytes) (w0 w1 w2 words : List ℕ) (out : Bytes) → (make_call text w0 w1 w2 words out).number ≡ 0
    → (b : Board) (line : Bytes) (v0 v1 v2 lent : List ℕ) (room : Bytes) → EditEnds (edit_call text b line v0 v1 v2 lent room)

-- what stands for stuck, 100, is no number of these two calls either, whatever the text, the board and the line
pub record NeverStuckBoard (text : Bytes) (w0 w1 w2 words : List ℕ) (out : Bytes) : Type 0 where
  pub make_number : (make_call text w0 w1 w2 words out).number ≤ 24
  pub edit_number_lem : (b : Board) (line : Bytes) → (edit_call text b line w0 w1 w2 words out).number ≤ 24

abbrev pub NeverStuckBoards : Type 0
NeverStuckBoards = (text : Bytes) (w0 w1 w2 words : List ℕ) (out : Bytes) → NeverStuckBoard text w0 w1 w2 words out

-- ---- the same of texts: one that differs from the board's only in V lines, and whose V lines say the board's slots

pub record OtherIs (b : Board) (other : Bytes) (t : Sheet) : Type 0 where
  -- of any length
  pub lines : rule_lines t 0 t.rules ≡ all_verdicts b
  -- and where it keeps the byte limit, the report on it
  pub report : length other ≤ most_bytes → (room : ℕ) → report_of other room ≡ fitting room (all_verdicts b)

abbrev pub OtherTexts : Type 0
OtherTexts =
    (text : Bytes) (w0 w1 w2 words : List ℕ) (out : Bytes) → (make_call text w0 w1 w2 words out).number ≡ 0
    → (es : List Edit) (b : Board) → After (sheet_in text) es b
    → (other : Bytes) (t : Sheet) → read_lines empty 0 (lines_of other) ≡ accepted t → DifferOnly [] text other → t.slots ≡ b.slots
    → OtherIs b other t

-- ---- the same of calls, each of which finds the two slices as the last one left them

module _ (l : Layout) (text : Bytes) where
  -- making, into slices that held anything
  pub record Makes (w0 w1 w2 : List ℕ) (before later : Slices) (v : Verdict) : Type 0 where
    pub is : v ≡ make_call text w0 w1 w2 before.words before.out
    pub words : later.words ≡ board_after v (l.lay (made (sheet_in text))) before.words
    pub out : later.out ≡ output_after v before.out

  -- an edit of a board that lies there
  pub record EditsBoard (b : Board) (line : Bytes) (w0 w1 w2 : List ℕ) (before later : Slices) (v : Verdict) : Type 0 where
    pub is : v ≡ edit_call text b line w0 w1 w2 before.words before.out
    pub words : later.words ≡ board_after v (l.lay (after_line (sheet_in text) b (read_edit line))) before.words
    pub out : later.out ≡ output_after v before.out

  -- an edit is bound to nothing where no board of this text lies there: "else an edit need only end"
  pub record Edits (line : Bytes) (w0 w1 w2 : List ℕ) (before later : Slices) (v : Verdict) : Type 0 where
    pub for : (es : List Edit) (b : Board) → After (sheet_in text) es b → Holds l b before → EditsBoard b line w0 w1 w2 before later v

  -- the accepted edits of a caller, what the slices then hold, and the last answer
  pub data Runs : List Edit → Slices → Verdict → Type 0 where
    first : (w0 w1 w2 : List ℕ) {before later : Slices} {v : Verdict} → Makes w0 w1 w2 before later v → v.number ≡ 0 → Runs [] later v
    edit : {es : List Edit} {before later : Slices} {u v : Verdict} → Runs es before u → (line : Bytes) (w0 w1 w2 : List ℕ)
        → Edits line w0 w1 w2 before later v → v.number ≡ 0 → (e : Edit) → read_edit line ≡ some e → Runs (es ++ (e ∷ [])) later v
    -- a refused edit is not of the list
    refused : {es : List Edit} {before later : Slices} {u v : Verdict} → Runs es before u → (line : Bytes) (w0 w1 w2 : List ℕ)
        → Edits line w0 w1 w2 before later v → v.number ≢ 0 → Runs es later u

  -- what an answered edit of the board b leaves
  pub record EditLeaves (b : Board) (e : Edit) (later : Slices) (v : Verdict) : Type 0 where
    pub holds : Holds l (after (sheet_in text) b e) later
    -- "the answer's steps being theirs added up"
    pub steps : v.steps ≡ renewed_steps (valued (sheet_in text) (edited b.slots e)) e.row (sheet_in text).rules

  pub record RunSays (es : List Edit) (x : Slices) (v : Verdict) : Type 0 where
    -- the board after those edits, of which `BoardIs` and `EditIs` tell, lies in the slices, and its verdicts were answered
    pub board : Board
    pub after_edits : After (sheet_in text) es board
    pub holds : Holds l board x
    pub verdicts : v.output ≡ all_verdicts board
    -- they are the report on the sheet with those edits made
    pub report : v.output ≡ rule_lines (sheet_with (sheet_in text) es) 0 (sheet_in text).rules
    -- and it stands in the verdict bytes
    pub lies : take (length v.output) x.out ≡ v.output
    -- one edit more: an answer leaves the board with it made
    pub answered : (line : Bytes) (w0 w1 w2 : List ℕ) (later : Slices) (u : Verdict) → Edits line w0 w1 w2 x later u → u.number ≡ 0
        → (e : Edit) → read_edit line ≡ some e → EditLeaves board e later u
    -- and a refusal leaves both slices as they were
    pub unchanged : (line : Bytes) (w0 w1 w2 : List ℕ) (later : Slices) (u : Verdict) → Edits line w0 w1 w2 x later u → u.number ≢ 0
        → (later.words ≡ x.words) × (later.out ≡ x.out)

abbrev pub RunLaw : Type 0
RunLaw = (l : Layout) (text : Bytes) (es : List Edit) (x : Slices) (v : Verdict) → Runs l text es x v → RunSays l text es x v
