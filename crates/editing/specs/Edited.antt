-- What an edit of a board that lies in the two slices comes to, and what it leaves there.
use Rattle.std.specs.Prelude.{◌≡◌, List, ℕ, length, take, Result, Ok, Err}
use Rattle.laws.specs.Lists.{concat}
use Rattle.memory.specs.Map as memory
use Rattle.ocl.specs.Types.{Ty}
use Rattle.sheet.specs.Text.{Bytes}
use Rattle.sheet.specs.Sheet.{Sheet}
use Rattle.sheet.specs.Calls.{Verdict, refusal_at, output_after}
use Rattle.board.specs.Edits.{read_edit}
use Rattle.board.specs.Board.{Board, renewed}
use Rattle.board.specs.Calls.{edit_on, after_line, board_after}
use Rattle.tables.specs.declared.Counts.{Counts}
use Rattle.tables.specs.Layout.{tab, Kept}
use Rattle.rules.specs.Accepted.{Accepted}
use Rattle.board_words.specs.Layout.{ends_from, board_words, BoardLies}
use Rattle.renewal.specs.Renewed.{renewal}
use Rattle.memory.specs.Refusals.{at, number}
use Rattle.memory.specs.declared.refusals.Refused.{Refused}
use Rattle.memory.specs.declared.refusals.Refusal.{Refusal}

-- the code's answer for a verdict
pub data SaysEdit : Result (ℕ × ℕ) Refused → Verdict → Type 0 where
  written : {n k : ℕ} (b : Bytes) → n ≡ length b → SaysEdit (Ok (n, k)) (record { number = 0; steps = k; place = 0; output = b })
  refused : {e : Refusal} {k : ℕ} → SaysEdit (Err (at e k)) (refusal_at (number e) k)

-- the verdicts of n rules stand in the verdict bytes, and the board's words say where each rule's end
pub record VerdictsLie (n : ℕ) (words : List ℕ) (out : Bytes) (ls : List Bytes) : Type 0 where
  pub count : length ls ≡ n
  pub ends : tab memory.board_ends (length ls) words ≡ ends_from 0 ls
  pub bytes : take (length (concat ls)) out ≡ concat ls

-- the answer and the two slices after it, where an answered edit lays down `laid`
pub record GivesEdit (v : Verdict) (laid : List ℕ) (r : Result (ℕ × ℕ) Refused) (words after : List ℕ) (out now : Bytes) : Type 0 where
  pub is : SaysEdit r v
  pub board : after ≡ board_after v laid words
  pub output : now ≡ output_after v out

-- an edit of row a that has been made in w0; w2 was u2 and is v2
pub record RenewsBoard (st : Counts) (w0 w1 u2 v2 : List ℕ) (a : ℕ) (words after : List ℕ) (out now : Bytes) (r : Result (ℕ × ℕ) Refused) : Type 0 where
  pub for : (s : Sheet) (ts : List Ty) → Accepted st w0 w1 s ts → (ls : List Bytes) → VerdictsLie st.rules words out ls
      → GivesEdit (renewal (length out) s a ls) (board_words (record { slots = s.slots; verdicts = renewed s a 0 s.rules ls })) r words after out now
  pub words_size : length after ≡ length words
  pub out_size : length now ≡ length out
  pub kept : Kept u2 v2

-- a line's edit; w0 was u0 and is v0
pub record EditsBoard (line : Bytes) (st : Counts) (u0 v0 w1 u2 v2 words after : List ℕ) (out now : Bytes) (r : Result (ℕ × ℕ) Refused) : Type 0 where
  pub for : (s : Sheet) (ts : List Ty) → Accepted st u0 w1 s ts → (b : Board) → BoardLies words s b → VerdictsLie st.rules words out b.verdicts
      → GivesEdit (edit_on (length out) s b (read_edit line)) (board_words (after_line s b (read_edit line))) r words after out now
  pub words_size : length after ≡ length words
  pub out_size : length now ≡ length out
  pub kept0 : Kept u0 v0
  pub kept2 : Kept u2 v2
