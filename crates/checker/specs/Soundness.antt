-- Document 01, Evaluation, demand 3 of the calls that read and evaluate, and that what stands for stuck is never seen: of whatever answers
-- and outputs the calls' contracts allow.
use Rattle.std.specs.Prelude.{◌≡◌, ◌≢◌, List, ◌++◌, ℕ, ◌≤◌, length, take, T}
use Rattle.std.proofs.Math.Option.{some}
use Rattle.std.proofs.Math.ListN.{get_elem?}
use Rattle.ocl.specs.Types.{Ty}
use Rattle.ocl.specs.Values.{Value, size, largest}
use Rattle.ocl.specs.Model.{Model, belongs}
use Rattle.ocl.specs.Operations.{Stop}
use Rattle.ocl.specs.Laws.{numbers_kept, Formed}
use Rattle.ocl.specs.Evaluation.{most_steps}
use Rattle.sheet.specs.Text.{Bytes, bytes, lines_of}
use Rattle.sheet.specs.Spelling.{spell_type, spell_value}
use Rattle.sheet.specs.Sheet.{model_of}
use Rattle.sheet.specs.Reading.{sheet_in}
use Rattle.sheet.specs.Calls.{read_call, evaluate_call}
use Rattle.sheet.specs.Report.{report_call}
use Rattle.sheet.specs.Rows.{rows_call}
use Rattle.sheet.specs.Profile.{profile_call}
use Rattle.sheet.specs.Origin.{origin_call}
use Rattle.sheet.specs.Soundness.{Lent, reach_of, of_context}
use Rattle.opening.specs.declared.Answer.{Answer}
use Rattle.opening.specs.Answers.{AnswersWith}

-- the output begins with w, and the answer says how long that is
pub record Says (w : Bytes) (a : Answer) (out : Bytes) : Type 0 where
  pub number : a.number ≡ 0
  pub length_of : a.length ≡ length w
  pub begins : take (length w) out ≡ w

-- how the call may answer for a rule of type t: as `Ending` says of its definition
pub data AnswerEnding (m : Model) (t : Ty) (a : Answer) (out : Bytes) : Type 0 where
  undefined_said : Says (bytes "u") a out → AnswerEnding m t a out
  value_said : (v : Value) → T (belongs m t v) → size v ≤ largest → T (numbers_kept v) → Formed v → Says (spell_value v) a out
      → AnswerEnding m t a out
  stop_said : Stop a.number → AnswerEnding m t a out

pub record SoundAnswer (text : Bytes) (r : ℕ) (t : Ty) (a : Answer) (out : Bytes) : Type 0 where
  pub ending : AnswerEnding (model_of (sheet_in text)) t a out
  -- the steps are within the rule's reach
  pub in_reach : a.steps ≤ reach_of text r
  -- no step stop where the reach is within the limit
  pub no_step_stop : reach_of text r ≤ most_steps → a.number ≢ 16

-- the call that reads answers 0, and line r of what it wrote is t's spelling
pub record SaysType (r : ℕ) (t : Ty) (a : Answer) (out : Bytes) : Type 0 where
  pub number : a.number ≡ 0
  pub line : get_elem? (lines_of (take a.length out)) r ≡ some (spell_type t)

-- rule r has type t, object o is of the rule's class or below it, and both calls are lent every slice at its minimum or above
abbrev pub Demand3OfCall : Type 0
Demand3OfCall =
    (text : Bytes) (r o : ℕ) (t : Ty)
    → (x0 x1 x2 : List ℕ) (put : Bytes) → Lent x0 x1 x2 put
    → (b : Answer) (y0 y1 y2 : List ℕ) (types : Bytes) → AnswersWith (read_call text x0 x1 x2 put) b x0 x1 x2 put y0 y1 y2 types
    → SaysType r t b types
    → T (of_context text r o)
    → (w0 w1 w2 : List ℕ) (out : Bytes) → Lent w0 w1 w2 out
    → (a : Answer) (v0 v1 v2 : List ℕ) (after : Bytes) → AnswersWith (evaluate_call text r o w0 w1 w2 out) a w0 w1 w2 out v0 v1 v2 after
    → SoundAnswer text r t a after

-- whatever the text and whatever is lent: the calls answer 0 or a number of the documents, and the report that is written has no `!100`
pub record NeverStuckAnswer (text : Bytes) (w0 w1 w2 : List ℕ) (out : Bytes) (a : Answer) (v0 v1 v2 : List ℕ) (after : Bytes) : Type 0 where
  pub read : AnswersWith (read_call text w0 w1 w2 out) a w0 w1 w2 out v0 v1 v2 after → a.number ≤ 24
  pub evaluated : (r o : ℕ) → AnswersWith (evaluate_call text r o w0 w1 w2 out) a w0 w1 w2 out v0 v1 v2 after → a.number ≤ 24
  pub profiled : AnswersWith (profile_call text w0 w1 w2 out) a w0 w1 w2 out v0 v1 v2 after → a.number ≤ 24
  pub reported : AnswersWith (report_call text w0 w1 w2 out) a w0 w1 w2 out v0 v1 v2 after → a.number ≤ 24
  pub seen : AnswersWith (rows_call text w0 w1 w2 out) a w0 w1 w2 out v0 v1 v2 after → a.number ≤ 24
  pub traced : AnswersWith (origin_call text w0 w1 w2 out) a w0 w1 w2 out v0 v1 v2 after → a.number ≤ 24
  pub report_bytes : AnswersWith (report_call text w0 w1 w2 out) a w0 w1 w2 out v0 v1 v2 after
      → (b c : Bytes) → take a.length after ≢ b ++ (bytes "!100" ++ c)

abbrev pub NeverStuckOfCall : Type 0
NeverStuckOfCall =
    (text : Bytes) (w0 w1 w2 : List ℕ) (out : Bytes) (a : Answer) (v0 v1 v2 : List ℕ) (after : Bytes)
    → NeverStuckAnswer text w0 w1 w2 out a v0 v1 v2 after
