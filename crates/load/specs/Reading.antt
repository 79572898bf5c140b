-- Document 02, F-14: a text line by line, what it comes to, and what the program prints.
use Rattle.std.specs.Prelude.{ℕ, suc, ◌&&◌, List, [], ◌∷◌, ◌++◌, length, leb, ltb}
use Rattle.std.proofs.Math.Option.{Option, none, some}
use Rattle.std.specs.Prelude.{if◌then◌else◌}
use Rattle.sheet.specs.Text.{Bytes, bytes, lines_of, spell_number}
use Rattle.sheet.specs.Lines.{a_number}
use Rattle.sheet.specs.Calls.{Verdict, answer, refusal, refusal_at}
use Rattle.sheet.specs.Report.{printed}
use Rattle.load.specs.Windows.{Load, load}

-- what the lines so far hold: the window of the first line, and the lengths behind it
pub record Run : Type 0 where
  pub window : ℕ
  pub lengths : List ℕ

-- one line: the run with it, or a refusal's number
pub data Step : Type 0 where
  taken : Run → Step
  refuse : ℕ → Step

-- "a first line with the window k, 1 to 64"
unfoldable pub step_window : ℕ → Step
step_window k = if leb 1 k && leb k 64 then taken (record { window = k; lengths = [] }) else refuse 4

-- "one number 0 to 1,000 a line, at most 1,000,000 lines"
unfoldable pub step_length : Run → ℕ → Step
step_length r x =
    if leb x 1000 && ltb (length r.lengths) 1000000 then taken (record { window = r.window; lengths = r.lengths ++ (x ∷ []) })
    else refuse 4

-- 3 where the line is no number, then 4; before the first line there is no run
unfoldable pub step : Option Run → Option ℕ → Step
step run none = refuse 3
step none (some k) = step_window k
step (some r) (some x) = step_length r x

-- 25, "fewer than k lengths"; else "the largest sum of k neighbouring lengths and the number, from 1, of the first stitch"
unfoldable pub on_load : Option Load → Verdict
on_load none = refusal 25
on_load (some l) = answer (spell_number l.total ++ bytes " " ++ spell_number l.first ++ bytes "\n")

-- behind line n - 1 the text ends; "No first line is 3 at line 1"
unfoldable pub at_end : ℕ → Option Run → Verdict
at_end n none = refusal_at 3 n
at_end n (some r) = on_load (load r.window r.lengths)

-- the text's last part is empty, else it is a line without a line feed: 3
unfoldable pub read_last : ℕ → Option Run → Bytes → Verdict
read_last n run [] = at_end n run
read_last n run (b ∷ l) = refusal_at 3 n

unfoldable pub on_step : Step → ℕ → (Run → Verdict) → Verdict
on_step (taken r) n f = f r
on_step (refuse c) n f = refusal_at c n

-- the parts from line n on; there is one at least, so that [] is never asked for
unfoldable pub read_lines : ℕ → Option Run → List Bytes → Verdict
read_lines n run [] = at_end n run
read_lines n run (l ∷ []) = read_last n run l
read_lines n run (l ∷ m ∷ ls) = on_step (step run (a_number l)) n (λ r. read_lines (suc n) (some r) (m ∷ ls))

unfoldable pub load_of : Bytes → Verdict
load_of text = read_lines 1 none (lines_of text)

-- what the program prints for a text
unfoldable pub program : Bytes → Bytes
program text = printed (load_of text)
