-- What the code promises that makes a running board of the accepted sheet in the words.
use Rattle.std.specs.Prelude.{◌≡◌, List, ℕ, length, take, Option as Optional}
use Rattle.ocl.specs.Types.{Ty}
use Rattle.sheet.specs.Text.{Bytes}
use Rattle.sheet.specs.Sheet.{Sheet}
use Rattle.sheet.specs.Calls.{output_after}
use Rattle.board.specs.Board.{verdicts_from, made}
use Rattle.board.specs.Calls.{board_after}
use Rattle.tables.specs.declared.Counts.{Counts}
use Rattle.tables.specs.Layout.{Kept}
use Rattle.rules.specs.Accepted.{Accepted, TypesIn}
use Rattle.report.specs.Reports.{report_on, SaysReport}
use Rattle.board_words.specs.Layout.{ends_from, board_words}

-- where the lines of each rule end; w2 was `before`
pub record EndsOfRules (st : Counts) (w0 w1 before after ends : List ℕ) : Type 0 where
  pub is : (s : Sheet) (ts : List Ty) → Accepted st w0 w1 s ts → take st.rules ends ≡ ends_from 0 (verdicts_from s 0 s.rules)
  pub kept : Kept before after

-- the verdict bytes were `out` and are `now`, the board words were `words` and are `board`; all verdicts are the report's lines
pub record MakesBoard (st : Counts) (w0 w1 before after : List ℕ) (out now : Bytes) (words board : List ℕ) (r : Optional ℕ) : Type 0 where
  pub is : (s : Sheet) (ts : List Ty) → Accepted st w0 w1 s ts → TypesIn before ts → SaysReport r (report_on s (length out))
  pub output : (s : Sheet) (ts : List Ty) → Accepted st w0 w1 s ts → TypesIn before ts → now ≡ output_after (report_on s (length out)) out
  pub laid : (s : Sheet) (ts : List Ty) → Accepted st w0 w1 s ts → TypesIn before ts → board ≡ board_after (report_on s (length out)) (board_words (made s)) words
  pub kept : Kept before after
