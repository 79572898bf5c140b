-- What the two calls about a running board promise (document 02, F-10): their answers, and every word and byte of the five slices. How a board
-- lies in its words is the code's to choose; both calls name the same layout.
use Rattle.std.specs.Prelude.{◌≡◌, List, ℕ, length}
use Rattle.std.specs.Prelude.{if◌then◌else◌}
use Rattle.sheet.specs.Text.{Bytes}
use Rattle.sheet.specs.Reading.{sheet_in}
use Rattle.sheet.specs.Calls.{wiped}
use Rattle.board.specs.Edits.{Edit, read_edit}
use Rattle.board.specs.Board.{Board, made}
use Rattle.board.specs.Calls.{short_board, make_call, edit_call, after_line, After, Layout, Holds, board_after}
use Rattle.opening.specs.declared.Answer.{Answer}
use Rattle.opening.specs.Answers.{AnswersWith}

-- making: the board of the text lies in the board words where the answer is 0
pub record AnswersMade (l : Layout) (text : Bytes) (a : Answer) (w0 w1 w2 words : List ℕ) (out : Bytes) (v0 v1 v2 board : List ℕ) (after : Bytes) : Type 0 where
  pub call : AnswersWith (make_call text w0 w1 w2 words out) a w0 w1 w2 out v0 v1 v2 after
  pub laid : board ≡ board_after (make_call text w0 w1 w2 words out) (l.lay (made (sheet_in text))) words

-- an edit of the board b
pub record EditAnswered (l : Layout) (text line : Bytes) (b : Board) (a : Answer) (w0 w1 w2 words : List ℕ) (out : Bytes) (v0 v1 v2 board : List ℕ) (after : Bytes) : Type 0 where
  pub call : AnswersWith (edit_call text b line w0 w1 w2 words out) a w0 w1 w2 out v0 v1 v2 after
  pub laid : board ≡ board_after (edit_call text b line w0 w1 w2 words out) (l.lay (after_line (sheet_in text) b (read_edit line))) words

-- a slice of words after the call, whatever lies in the two slices
abbrev pub left_words : List ℕ → List ℕ → List ℕ → List ℕ → Bytes → List ℕ → List ℕ
left_words w0 w1 w2 words out w = if short_board w0 w1 w2 words out then w else wiped w

pub record AnswersEdit (l : Layout) (text line : Bytes) (a : Answer) (w0 w1 w2 words : List ℕ) (out : Bytes) (v0 v1 v2 board : List ℕ) (after : Bytes) : Type 0 where
  -- for every board of the text that lies there
  pub for : (es : List Edit) (b : Board) → After (sheet_in text) es b → Holds l b (record { words = words; out = out })
      → EditAnswered l text line b a w0 w1 w2 words out v0 v1 v2 board after
  -- "else an edit need only end"
  pub words0 : v0 ≡ left_words w0 w1 w2 words out w0
  pub words1 : v1 ≡ left_words w0 w1 w2 words out w1
  pub words2 : v2 ≡ left_words w0 w1 w2 words out w2
  pub board_size : length board ≡ length words
  pub out_size : length after ≡ length out
