-- Document 02, F-11: what is proved of the lines that name where undefined came from. proofs/Origin.antt has the proofs.
use Rattle.std.specs.Prelude.{◌≡◌, ◌≢◌, List, [], map, ℕ, ◌<◌, ◌≤◌, length, get_or}
use Rattle.std.proofs.Math.Option.{some}
use Rattle.std.proofs.Math.ListN.{get_elem?}
use Rattle.laws.specs.Lists.{concat}
use Rattle.ocl.specs.Values.{obj}
use Rattle.ocl.specs.Environment.{start}
use Rattle.ocl.specs.Operations.{undefined}
use Rattle.ocl.specs.Origin.{Arose, NodeOf}
use Rattle.sheet.specs.Text.{Bytes}
use Rattle.sheet.specs.Sheet.{Rule, Sheet, model_of}
use Rattle.sheet.specs.Reading.{accepted, read_text, sheet_in}
use Rattle.sheet.specs.Calls.{read_call, marks_of, outcome_of}
use Rattle.sheet.specs.Report.{report_line, rule_lines, fitting, report_call}
use Rattle.sheet.specs.TextLaws.{with_lines}
use Rattle.sheet.specs.Origin.{trace_of, place_line, origin_line, rule_origins, origin_call}

-- the line of a verdict that is undefined after m steps names a node of the rule, or of a definition that it reaches, which has a line
-- on the sheet: undefined arose there, and the node began at that step, one of the m
pub record Named (s : Sheet) (r : ℕ) (x : Rule) (o m : ℕ) : Type 0 where
  pub at : ℕ
  pub step : ℕ
  pub arose : Arose (model_of s) (marks_of s) x.body (start (obj o)) 0 at step
  pub node : NodeOf x.body at
  pub on_sheet : at < length s.lines
  pub first : 1 ≤ step
  pub last : step ≤ m
  pub line : origin_line s r o (trace_of s x o) ≡ place_line r o (get_or s.lines at 0) step

-- an undefined verdict gets its line, and no other does
pub record OriginOn (s : Sheet) (r : ℕ) (x : Rule) (o : ℕ) : Type 0 where
  pub named : (m : ℕ) → outcome_of s x o ≡ undefined m → Named s r x o m
  pub unnamed : ((m : ℕ) → outcome_of s x o ≢ undefined m) → origin_line s r o (trace_of s x o) ≡ []

abbrev pub OriginOnLaw : Type 0
OriginOnLaw =
    (text : Bytes) (s : Sheet) → read_text text ≡ accepted s → (r : ℕ) (x : Rule) → get_elem? s.rules r ≡ some x → (o : ℕ) → OriginOn s r x o

-- what a verdict is of
pub record Asked : Type 0 where
  pub number : ℕ
  pub rule : Rule
  pub object : ℕ

-- the report and these lines go through the same verdicts, one after the other
pub record SameOrder (s : Sheet) : Type 0 where
  pub verdicts : List Asked
  pub report : rule_lines s 0 s.rules ≡ concat (map (λ v. report_line v.number v.object (outcome_of s v.rule v.object)) verdicts)
  pub origins : rule_origins s 0 s.rules ≡ concat (map (λ v. origin_line s v.number v.object (trace_of s v.rule v.object)) verdicts)

-- a text that is not accepted is refused as the report refuses it; on an accepted one the report's length has no say
pub record AsReport (text : Bytes) (w0 w1 w2 : List ℕ) (out : Bytes) : Type 0 where
  pub refuses_alike : (read_call text w0 w1 w2 out).number ≢ 0 → origin_call text w0 w1 w2 out ≡ report_call text w0 w1 w2 out
  pub answers : (read_call text w0 w1 w2 out).number ≡ 0
      → origin_call text w0 w1 w2 out ≡ fitting (length out) (rule_origins (sheet_in text) 0 (sheet_in text).rules)

abbrev pub AsReportLaw : Type 0
AsReportLaw = (text : Bytes) (w0 w1 w2 : List ℕ) (out : Bytes) → AsReport text w0 w1 w2 out

-- F-7: with node lines in place of an X line undefined arises at the same node and step, whose line alone is another
abbrev pub OriginOfText : Type 0
OriginOfText = (s : Sheet) (ls : List ℕ) (x : Rule) (o : ℕ) → trace_of (with_lines s ls) x o ≡ trace_of s x o
