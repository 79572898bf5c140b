-- The calls that write the report and where undefined came from. Assumes nothing.
use mathlib.Core.Path.{◌≡◌}
use mathlib.Core.Logic.{◌≢◌}
use mathlib.Core.Bool.{Bool, true, false}
use mathlib.Core.List.{List}
use Prim.Native.Nat.{ℕ}
use native.Mathlib.Omega.{arith}
use lib.Dec.{ltb}
use lib.ListN.{length}
use Rattle.std.specs.Prelude.{if◌then◌else◌, Option as Optional, Result, Ok, Err}
use Rattle.sheet.specs.Text.{Bytes}
use Rattle.sheet.specs.Calls.{Verdict, answer, refusal_at, refusal}
use Rattle.sheet.specs.Sheet.{Sheet}
use Rattle.sheet.specs.Report.{rule_lines, fitting, report_of}
use Rattle.sheet.specs.Origin.{rule_origins, origins_of}
use Rattle.tables.specs.declared.Counts.{Counts}
use Rattle.tables.specs.Layout.{Kept}
use Rattle.report.specs.Reports.{report_on, origins_on, SaysReport, Reports}
use Rattle.opening.specs.declared.Answer.{Answer}
use Rattle.opening.specs.Answers.{answer_of}
use Rattle.opening.specs.Parts.{OpensText, GivesFor, Leaves}
use Rattle.opening.proofs.Readings.{leaves_on, leaves_stop, accepted_number}
use Rattle.memory.specs.Refusals.{number}
use Rattle.memory.specs.declared.refusals.Refused.{Refused}

-- ---- on an accepted sheet

module _ {st : Counts} {w0 w1 w2 v2 : List ℕ} {out now : Bytes} {a : Answer} {r : Optional ℕ} where
  lines_give : (f : Sheet → ℕ → Verdict) → Reports f st w0 w1 w2 v2 out now r → ((v : Verdict) → SaysReport r v → a ≡ answer_of v)
      → GivesFor st w0 w1 w2 (λ s ts. f s (length out)) a out now
  lines_give f d e = record { for = λ s ts g i. record { is = e (f s (length out)) (d.is s ts g i); output = d.output s ts g i } }

  pub report_gives : Reports report_on st w0 w1 w2 v2 out now r → ((v : Verdict) → SaysReport r v → a ≡ answer_of v)
      → GivesFor st w0 w1 w2 (λ s ts. report_on s (length out)) a out now
  report_gives = lines_give report_on

  pub origins_give : Reports origins_on st w0 w1 w2 v2 out now r → ((v : Verdict) → SaysReport r v → a ≡ answer_of v)
      → GivesFor st w0 w1 w2 (λ s ts. origins_on s (length out)) a out now
  origins_give = lines_give origins_on

-- ---- after a text is opened

module _ {text : Bytes} {w0 w1 w2 v0 v1 v2 : List ℕ} {z : Result Counts Refused} {a : Answer} (t : OpensText text z w0 w1 w2 v0 v1 v2) where
  pub report_given : {st : Counts} {x2 : List ℕ} {out after : Bytes} → z ≡ Ok st → GivesFor st v0 v1 v2 (λ s ts. report_on s (length out)) a out after → Kept v2 x2
      → Leaves (report_of text (length out)) a w0 w1 w2 out v0 v1 x2 after
  unfolding report_of
  report_given {out = out} e g k = leaves_on t (λ s ts. report_on s (length out)) e g k

  pub report_stopped : {x : Refused} (out : Bytes) → z ≡ Err x → a ≡ answer_of (refusal_at (number x.refusal) x.place) → Leaves (report_of text (length out)) a w0 w1 w2 out v0 v1 v2 out
  unfolding report_of
  report_stopped out e q = leaves_stop t (λ s ts. report_on s (length out)) out e q

  pub origins_given : {st : Counts} {x2 : List ℕ} {out after : Bytes} → z ≡ Ok st → GivesFor st v0 v1 v2 (λ s ts. origins_on s (length out)) a out after → Kept v2 x2
      → Leaves (origins_of text (length out)) a w0 w1 w2 out v0 v1 x2 after
  unfolding origins_of
  origins_given {out = out} e g k = leaves_on t (λ s ts. origins_on s (length out)) e g k

  pub origins_stopped : {x : Refused} (out : Bytes) → z ≡ Err x → a ≡ answer_of (refusal_at (number x.refusal) x.place) → Leaves (origins_of text (length out)) a w0 w1 w2 out v0 v1 v2 out
  unfolding origins_of
  origins_stopped out e q = leaves_stop t (λ s ts. origins_on s (length out)) out e q

-- ---- the calls do not refuse with 1 once nothing is short

pub fitting_number : (room : ℕ) (b : Bytes) → (fitting room b).number ≢ 1
unfolding fitting refusal refusal_at answer
fitting_number room b = by (ltb room (length b))
  where
    by : (c : Bool) → (if c then refusal 18 else answer b).number ≢ 1
    by true q = omega arith
    by false q = omega arith

pub report_number : (text : Bytes) (room : ℕ) → (report_of text room).number ≢ 1
unfolding report_of
report_number text room = accepted_number text (λ s ts. report_on s room) (λ s ts e d h. fitting_number room (rule_lines s 0 s.rules))

pub origins_number : (text : Bytes) (room : ℕ) → (origins_of text room).number ≢ 1
unfolding origins_of
origins_number text room = accepted_number text (λ s ts. origins_on s room) (λ s ts e d h. fitting_number room (rule_origins s 0 s.rules))
