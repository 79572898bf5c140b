-- Document 02, F-10 of the two calls about a running board: of whatever answers and slices the calls' contracts allow.
use Rattle.std.specs.Prelude.{◌≡◌, ◌≢◌, List, [], ◌∷◌, ◌++◌, ℕ, length, take}
use Rattle.std.proofs.Math.Option.{some}
use Rattle.sheet.specs.Text.{Bytes}
use Rattle.sheet.specs.Reading.{sheet_in}
use Rattle.sheet.specs.Calls.{Verdict}
use Rattle.sheet.specs.Report.{rule_lines}
use Rattle.board.specs.Edits.{Edit, read_edit, edited}
use Rattle.board.specs.Board.{Board, valued, renewed_steps, after}
use Rattle.board.specs.Calls.{Layout, Slices, Holds}
use Rattle.board.specs.Laws.{sheet_with, BoardIs, EditIs, Makes, Edits}
use Rattle.opening.specs.declared.Answer.{Answer}
use Rattle.checker.specs.Boards.{AnswersMade, AnswersEdit}

-- ---- each call is one of those that `RunLaw` speaks of (board/specs/Laws.antt)

-- what a caller gets of a call: the answer, and as many bytes as it says
abbrev pub said : Answer → Bytes → Verdict
said a out = record { number = a.number; steps = a.steps; place = a.place; output = take a.length out }

abbrev pub slices : List ℕ → Bytes → Slices
slices words out = record { words = words; out = out }

abbrev pub MakesByCall : Type 0
MakesByCall =
    (l : Layout) (text : Bytes) (a : Answer) (w0 w1 w2 words : List ℕ) (out : Bytes) (v0 v1 v2 board : List ℕ) (now : Bytes)
    → AnswersMade l text a w0 w1 w2 words out v0 v1 v2 board now → Makes l text w0 w1 w2 (slices words out) (slices board now) (said a now)

abbrev pub EditsByCall : Type 0
EditsByCall =
    (l : Layout) (text line : Bytes) (a : Answer) (w0 w1 w2 words : List ℕ) (out : Bytes) (v0 v1 v2 board : List ℕ) (now : Bytes)
    → AnswersEdit l text line a w0 w1 w2 words out v0 v1 v2 board now → Edits l text line w0 w1 w2 (slices words out) (slices board now) (said a now)

-- ---- "After every list of accepted edits, the text the same and the board untouched between them"

-- a board that was made and then edited, each call finding both slices as the last one left them: the accepted edits, the last answer that
-- was no refusal, and what the board words and the verdict bytes then hold
pub data Turns (l : Layout) (text : Bytes) : List Edit → Answer → List ℕ → Bytes → Type 0 where
  made : {a : Answer} {w0 w1 w2 words v0 v1 v2 board : List ℕ} {out now : Bytes}
      → AnswersMade l text a w0 w1 w2 words out v0 v1 v2 board now → a.number ≡ 0 → Turns l text [] a board now
  accepted : {es : List Edit} {last a : Answer} {w0 w1 w2 words v0 v1 v2 board : List ℕ} {out line now : Bytes} → Turns l text es last words out
      → AnswersEdit l text line a w0 w1 w2 words out v0 v1 v2 board now → a.number ≡ 0 → {e : Edit} → read_edit line ≡ some e
      → Turns l text (es ++ (e ∷ [])) a board now
  refused : {es : List Edit} {last a : Answer} {w0 w1 w2 words v0 v1 v2 board : List ℕ} {out line now : Bytes} → Turns l text es last words out
      → AnswersEdit l text line a w0 w1 w2 words out v0 v1 v2 board now → a.number ≢ 0 → Turns l text es last board now

-- "the report on the sheet with those edits made, its byte limit set aside"
abbrev pub report_with : Bytes → List Edit → Bytes
report_with text es = rule_lines (sheet_with (sheet_in text) es) 0 (sheet_in text).rules

-- what one edit more does to the board b
pub record NextTurn (l : Layout) (text : Bytes) (b : Board) (words : List ℕ) (out line : Bytes) (a : Answer) (board : List ℕ) (now : Bytes) : Type 0 where
  -- "Exactly the rules that were resolved to the edited row are evaluated again .., and the others keep their verdict bytes" (`EditIs`)
  pub leaves : a.number ≡ 0 → (e : Edit) → read_edit line ≡ some e → Holds l (after (sheet_in text) b e) (slices board now)
  -- "the answer's steps being theirs added up"
  pub steps : a.number ≡ 0 → (e : Edit) → read_edit line ≡ some e
      → a.steps ≡ renewed_steps (valued (sheet_in text) (edited b.slots e)) e.row (sheet_in text).rules
  -- "A refusal leaves the board unchanged"
  pub unchanged : a.number ≢ 0 → (board ≡ words) × (now ≡ out)

pub record BoardSays (l : Layout) (text : Bytes) (es : List Edit) (a : Answer) (words : List ℕ) (out : Bytes) : Type 0 where
  -- "the board's verdicts equal the report", and the answer says how long that is
  pub report : take a.length out ≡ report_with text es
  pub length_of : a.length ≡ length (report_with text es)
  -- the board that lies in the slices, and what each edit of it comes to
  pub board : Board
  pub lies : Holds l board (slices words out)
  pub board_is : BoardIs (sheet_in text) es board
  pub edit_is : (e : Edit) → EditIs (sheet_in text) board e
  pub next : (line : Bytes) (b : Answer) (w0 w1 w2 v0 v1 v2 later : List ℕ) (now : Bytes) → AnswersEdit l text line b w0 w1 w2 words out v0 v1 v2 later now
      → NextTurn l text board words out line b later now

abbrev pub CorrectionsOfCalls : Type 0
CorrectionsOfCalls =
    (l : Layout) (text : Bytes) (es : List Edit) (a : Answer) (words : List ℕ) (out : Bytes) → Turns l text es a words out
    → BoardSays l text es a words out
