-- What the parts of the call that makes a running board promise.
use Rattle.std.specs.Prelude.{◌≡◌, List, ℕ, length}
use Rattle.ocl.specs.Types.{Ty}
use Rattle.sheet.specs.Text.{Bytes}
use Rattle.sheet.specs.Sheet.{Sheet}
use Rattle.sheet.specs.Reading.{sheet_in}
use Rattle.sheet.specs.Calls.{on_accepted}
use Rattle.sheet.specs.Report.{fitting}
use Rattle.board.specs.Board.{all_verdicts, made}
use Rattle.board.specs.Calls.{board_after}
use Rattle.tables.specs.declared.Counts.{Counts}
use Rattle.rules.specs.Accepted.{Accepted, TypesIn}
use Rattle.report.specs.Reports.{report_on}
use Rattle.board_words.specs.Layout.{board_words}
use Rattle.opening.specs.declared.Answer.{Answer}
use Rattle.opening.specs.Parts.{Leaves}

-- the board words, for each accepted sheet in w0 and w1, whose types wait in w2
pub record LaysFor (st : Counts) (w0 w1 w2 : List ℕ) (room : ℕ) (words board : List ℕ) : Type 0 where
  pub for : (s : Sheet) (ts : List Ty) → Accepted st w0 w1 s ts → TypesIn w2 ts → board ≡ board_after (report_on s room) (board_words (made s)) words

-- with words that are still to be wiped
pub record LeavesMade (text : Bytes) (a : Answer) (w0 w1 w2 words : List ℕ) (out : Bytes) (v0 v1 v2 board : List ℕ) (after : Bytes) : Type 0 where
  pub leaves : Leaves (on_accepted text (λ s ts. fitting (length out) (all_verdicts (made s)))) a w0 w1 w2 out v0 v1 v2 after
  pub laid : board ≡ board_after (on_accepted text (λ s ts. fitting (length out) (all_verdicts (made s)))) (board_words (made (sheet_in text))) words
