-- Document 02, F-10: what making and an edit answer, for all texts, boards and lengths of what is lent, and what they leave.
use Rattle.std.specs.Prelude.{ℕ, ◌≡◌, Bool, ◌||◌, List, [], ◌∷◌, ◌++◌, length, take, drop, eqb, ltb}
use Rattle.std.proofs.Math.Option.{Option, none, some}
use Rattle.std.specs.Prelude.{if◌then◌else◌}
use Rattle.sheet.specs.Text.{Bytes}
use Rattle.sheet.specs.Sheet.{Sheet}
use Rattle.sheet.specs.Reading.{Step, taken, refuse}
use Rattle.sheet.specs.Calls.{Verdict, refusal_at, refusal, short_words, short_output, on_accepted}
use Rattle.sheet.specs.Report.{fitting}
use Rattle.board.specs.Edits.{Edit, read_edit, edited, judged, has_room}
use Rattle.board.specs.Board.{Board, all_verdicts, valued, made, renewed_steps, after}

-- words "at least 8,192"
abbrev pub least_board : ℕ
least_board = 8192

-- 1: also too few board words, and "verdict bytes (at least 2,560)"
unfoldable pub short_board : List ℕ → List ℕ → List ℕ → List ℕ → Bytes → Bool
short_board w0 w1 w2 words out = short_words w0 w1 w2 || ltb (length words) least_board || short_output out

-- ---- making: "refuse these as the report does, and return all verdicts' length"; "verdicts longer than the lent verdict bytes are 18"

unfoldable pub make_call : Bytes → List ℕ → List ℕ → List ℕ → List ℕ → Bytes → Verdict
make_call text w0 w1 w2 words out =
    if short_board w0 w1 w2 words out then refusal 1
    else on_accepted text (λ s ts. fitting (length out) (all_verdicts (made s)))

-- ---- an edit

-- "their place, and 21's, is 1"
unfoldable pub on_judged : Step → Verdict → Verdict
on_judged (taken t) v = v
on_judged (refuse n) v = refusal_at n 1

-- 18, "ranked last", or the answer
unfoldable pub answered : ℕ → Sheet → Board → Edit → Verdict
answered room s b e =
    if ltb room (length (all_verdicts (after s b e))) then refusal 18
    else record {
      number = 0;
      steps = renewed_steps (valued s (edited b.slots e)) e.row s.rules;
      place = 0;
      output = all_verdicts (after s b e);
    }

-- "21 (board full) .. ranked after 7"
unfoldable pub edit_on : ℕ → Sheet → Board → Option Edit → Verdict
edit_on room s b none = refusal_at 3 1
edit_on room s b (some e) = on_judged (judged s e) (if has_room (edited b.slots e) then answered room s b e else refusal_at 21 1)

-- an edit by a line's bytes, of the board b of this text
unfoldable pub edit_call : Bytes → Board → Bytes → List ℕ → List ℕ → List ℕ → List ℕ → Bytes → Verdict
edit_call text b line w0 w1 w2 words out =
    if short_board w0 w1 w2 words out then refusal 1
    else on_accepted text (λ s ts. edit_on (length out) s b (read_edit line))

-- the board that an answered edit makes; a line that is none is refused
unfoldable pub after_line : Sheet → Board → Option Edit → Board
after_line s b none = b
after_line s b (some e) = after s b e

-- ---- "After every list of accepted edits"

-- a board that was made, and then each edit in turn answered, whatever verdict bytes were lent for it
pub data After (s : Sheet) : List Edit → Board → Type 0 where
  none_yet : After s [] (made s)
  one_more : {es : List Edit} {b : Board} → After s es b → (room : ℕ) (e : Edit) → (edit_on room s b (some e)).number ≡ 0
      → After s (es ++ (e ∷ [])) (after s b e)

-- ---- "in two more lent slices": how the board lies there

-- what the first 8,192 words hold of it is the code's to choose
pub record Layout : Type 0 where
  pub lay : Board → List ℕ
  pub whole : (b : Board) → length (lay b) ≡ least_board

-- the two slices
pub record Slices : Type 0 where
  pub words : List ℕ
  pub out : Bytes

-- the verdicts stand in front of the verdict bytes
pub record Holds (l : Layout) (b : Board) (x : Slices) : Type 0 where
  pub in_words : take least_board x.words ≡ l.lay b
  pub in_bytes : take (length (all_verdicts b)) x.out ≡ all_verdicts b

-- the board words after a call: "never zeroed", and "a refusal leaves the board unchanged"; the verdict bytes are `output_after`, the three
-- word slices `words_after` of the verdict, as after every call
unfoldable pub board_after : Verdict → List ℕ → List ℕ → List ℕ
board_after v laid words = if eqb v.number 0 then laid ++ drop least_board words else words
