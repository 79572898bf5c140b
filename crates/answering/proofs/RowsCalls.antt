-- The call that writes the rows which rules see. Assumes nothing.
use mathlib.Core.Path.{◌≡◌}
use mathlib.Core.Logic.{◌≢◌}
use mathlib.Core.List.{List}
use Prim.Native.Nat.{ℕ}
use lib.ListN.{length}
use Rattle.sheet.specs.Text.{Bytes}
use Rattle.sheet.specs.Calls.{Verdict, refusal_at}
use Rattle.sheet.specs.Rows.{rows_lines, rows_into}
use Rattle.tables.specs.declared.Counts.{Counts}
use Rattle.tables.specs.Layout.{Kept}
use Rattle.report.specs.Reports.{SaysReport}
use Rattle.rows.specs.Lines.{rows_on, TellsRows}
use Rattle.opening.specs.declared.Answer.{Answer}
use Rattle.opening.specs.Answers.{answer_of}
use Rattle.opening.specs.Parts.{OpensText, GivesFor, Leaves}
use Rattle.opening.proofs.Readings.{leaves_on, leaves_stop, accepted_number}
use Rattle.answering.proofs.ReportCalls.{fitting_number}
use Rattle.std.specs.Prelude.{Option as Optional, Result, Ok, Err}
use Rattle.memory.specs.Refusals.{number}
use Rattle.memory.specs.declared.refusals.Refused.{Refused}

-- ---- on an accepted sheet

pub rows_give : {st : Counts} {w0 w1 w2 v2 : List ℕ} {out now : Bytes} {a : Answer} {r : Optional ℕ} → TellsRows st w0 w1 w2 v2 out now r
    → ((v : Verdict) → SaysReport r v → a ≡ answer_of v) → GivesFor st w0 w1 w2 (λ s ts. rows_on s (length out)) a out now
rows_give {out = out} d e = record { for = λ s ts g i. record { is = e (rows_on s (length out)) (d.is s ts g); output = d.output s ts g } }

-- ---- after a text is opened

module _ {text : Bytes} {w0 w1 w2 v0 v1 v2 : List ℕ} {z : Result Counts Refused} {a : Answer} (t : OpensText text z w0 w1 w2 v0 v1 v2) where
  pub rows_given : {st : Counts} {x2 : List ℕ} {out after : Bytes} → z ≡ Ok st → GivesFor st v0 v1 v2 (λ s ts. rows_on s (length out)) a out after → Kept v2 x2
      → Leaves (rows_into text (length out)) a w0 w1 w2 out v0 v1 x2 after
  unfolding rows_into
  rows_given {out = out} e g k = leaves_on t (λ s ts. rows_on s (length out)) e g k

  pub rows_stopped : {x : Refused} (out : Bytes) → z ≡ Err x → a ≡ answer_of (refusal_at (number x.refusal) x.place) → Leaves (rows_into text (length out)) a w0 w1 w2 out v0 v1 v2 out
  unfolding rows_into
  rows_stopped out e q = leaves_stop t (λ s ts. rows_on s (length out)) out e q

-- ---- the call does not refuse with 1 once nothing is short

pub rows_number : (text : Bytes) (room : ℕ) → (rows_into text room).number ≢ 1
unfolding rows_into
rows_number text room = accepted_number text (λ s ts. rows_on s room) (λ s ts e d h. fitting_number room (rows_lines s 0 s.rules))
