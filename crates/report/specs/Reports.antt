-- What the lines of an accepted sheet in the words come to, the report's or those that say where undefined came from, and what the code answers.
use Rattle.std.specs.Prelude.{◌≡◌, Bool, true, false, List, ℕ, ◌≤◌, ◌<◌, length, Option as Optional, Some, None}
use Rattle.ocl.specs.Types.{Ty}
use Rattle.sheet.specs.Text.{Bytes}
use Rattle.sheet.specs.Sheet.{Sheet}
use Rattle.sheet.specs.Calls.{Verdict, answer, refusal, output_after}
use Rattle.sheet.specs.Report.{rule_lines, fitting}
use Rattle.sheet.specs.Origin.{rule_origins}
use Rattle.tables.specs.declared.Counts.{Counts}
use Rattle.tables.specs.Layout.{Kept}
use Rattle.rules.specs.Accepted.{Accepted, TypesIn}
use Rattle.report.specs.Bound.{rules_bound}
use Rattle.report.specs.Passes.{all_lines}

-- the report of a sheet into so many bytes
abbrev pub report_on : Sheet → ℕ → Verdict
report_on s room = fitting room (rule_lines s 0 s.rules)

-- and the lines that say where its undefined verdicts came from
abbrev pub origins_on : Sheet → ℕ → Verdict
origins_on s room = fitting room (rule_origins s 0 s.rules)

-- one or the other
abbrev pub lines_on : Bool → Sheet → ℕ → Verdict
lines_on origins s room = fitting room (all_lines origins s)

-- the code's answer for a verdict
pub data SaysReport : Optional ℕ → Verdict → Type 0 where
  written : (b : Bytes) {n : ℕ} → n ≡ length b → SaysReport (Some n) (answer b)
  too_long : SaysReport None (refusal 18)

-- f is what is asked of a sheet; w2 was `before` and is `after`; the output was `out` and is `now`
pub record Reports (f : Sheet → ℕ → Verdict) (st : Counts) (w0 w1 before after : List ℕ) (out now : Bytes) (r : Optional ℕ) : Type 0 where
  pub is : (s : Sheet) (ts : List Ty) → Accepted st w0 w1 s ts → TypesIn before ts → SaysReport r (f s (length out))
  pub output : (s : Sheet) (ts : List Ty) → Accepted st w0 w1 s ts → TypesIn before ts → now ≡ output_after (f s (length out)) out
  pub kept : Kept before after

-- ---- on the way

-- the bound is that of an accepted sheet
pub record Bounded (origins : Bool) (st : Counts) (w0 w1 : List ℕ) (bound : ℕ) : Type 0 where
  pub sheet : Sheet
  pub types : List Ty
  pub accepted : Accepted st w0 w1 sheet types
  pub is : bound ≡ rules_bound origins sheet sheet.rules types
  pub few : bound ≤ 14247936

-- n is their length
pub record Measures (origins : Bool) (st : Counts) (w0 w1 before after : List ℕ) (n : ℕ) : Type 0 where
  pub is : (s : Sheet) (ts : List Ty) → Accepted st w0 w1 s ts → n ≡ length (all_lines origins s)
  pub kept : Kept before after

-- they fit by their bound or by their length; or they are longer
pub data Fit (bound room n : ℕ) : Bool → Type 0 where
  by_bound : bound ≤ room → Fit bound room n true
  by_length : n ≤ room → Fit bound room n true
  no_fit : room < n → Fit bound room n false

pub record TellsFit (origins : Bool) (st : Counts) (w0 w1 before after : List ℕ) (bound room : ℕ) (r : Bool) : Type 0 where
  pub is : (s : Sheet) (ts : List Ty) → Accepted st w0 w1 s ts → Fit bound room (length (all_lines origins s)) r
  pub kept : Kept before after
