-- What the parts of the call that edits a running board promise.
use Rattle.std.specs.Prelude.{◌≡◌, List, ℕ, length}
use Rattle.ocl.specs.Types.{Ty}
use Rattle.sheet.specs.Text.{Bytes}
use Rattle.sheet.specs.Sheet.{Sheet}
use Rattle.sheet.specs.Reading.{sheet_in}
use Rattle.sheet.specs.Calls.{Verdict, on_accepted}
use Rattle.board.specs.Edits.{Edit, read_edit}
use Rattle.board.specs.Board.{Board}
use Rattle.board.specs.Calls.{edit_on, after_line, After, Holds, board_after}
use Rattle.tables.specs.declared.Counts.{Counts}
use Rattle.tables.specs.Layout.{Kept}
use Rattle.rules.specs.Accepted.{Accepted}
use Rattle.board_words.specs.Layout.{board_words, BoardLies}
use Rattle.board_words.proofs.Found.{layout}
use Rattle.editing.specs.Edited.{VerdictsLie}
use Rattle.opening.specs.declared.Answer.{Answer}
use Rattle.opening.specs.Parts.{GivesAnswer}

-- on each accepted sheet in w0 and w1, which were u0 and w1
pub record EditsOn (line : Bytes) (st : Counts) (u0 v0 w1 u2 v2 words board : List ℕ) (out after : Bytes) (a : Answer) : Type 0 where
  pub gives : (s : Sheet) (ts : List Ty) → Accepted st u0 w1 s ts → (b : Board) → BoardLies words s b → VerdictsLie st.rules words out b.verdicts
      → GivesAnswer (edit_on (length out) s b (read_edit line)) a out after
  pub laid : (s : Sheet) (ts : List Ty) → Accepted st u0 w1 s ts → (b : Board) → BoardLies words s b → VerdictsLie st.rules words out b.verdicts
      → board ≡ board_after (edit_on (length out) s b (read_edit line)) (board_words (after_line s b (read_edit line))) words
  pub board_size : length board ≡ length words
  pub out_size : length after ≡ length out
  pub kept0 : Kept u0 v0
  pub kept2 : Kept u2 v2

-- the verdict where nothing is short
abbrev pub edit_verdict : Bytes → Bytes → Board → ℕ → Verdict
edit_verdict text line b room = on_accepted text (λ s ts. edit_on room s b (read_edit line))

-- with words that are still to be wiped
pub record LeavesEdit (text line : Bytes) (a : Answer) (w0 w1 w2 words : List ℕ) (out : Bytes) (v0 v1 v2 board : List ℕ) (after : Bytes) : Type 0 where
  pub gives : (es : List Edit) (b : Board) → After (sheet_in text) es b → Holds layout b (record { words = words; out = out }) → GivesAnswer (edit_verdict text line b (length out)) a out after
  pub laid : (es : List Edit) (b : Board) → After (sheet_in text) es b → Holds layout b (record { words = words; out = out })
      → board ≡ board_after (edit_verdict text line b (length out)) (board_words (after_line (sheet_in text) b (read_edit line))) words
  pub board_size : length board ≡ length words
  pub out_size : length after ≡ length out
  pub kept0 : Kept w0 v0
  pub kept1 : Kept w1 v1
  pub kept2 : Kept w2 v2
