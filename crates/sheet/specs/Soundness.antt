-- Document 01, Evaluation, on demand 3: stated from the bytes, over what the calls answer.
use Rattle.std.specs.Prelude.{◌≡◌, ◌≢◌, Bool, false, List, [], ◌++◌, ℕ, ◌≤◌, length, T}
use Rattle.std.proofs.Math.Option.{Option, none, some}
use Rattle.std.proofs.Math.ListN.{get_elem?}
use Rattle.ocl.specs.Types.{class, Ty}
use Rattle.ocl.specs.Values.{Value, size, largest}
use Rattle.ocl.specs.Model.{Model, is_a, belongs}
use Rattle.ocl.specs.Forms.{reach}
use Rattle.ocl.specs.Operations.{stuck, Stop}
use Rattle.ocl.specs.Laws.{Formed, numbers_kept}
use Rattle.ocl.specs.Evaluation.{most_steps}
use Rattle.sheet.specs.Sizes.{least_words, least_output}
use Rattle.sheet.specs.Text.{Bytes, bytes, lines_of}
use Rattle.sheet.specs.Spelling.{spell_type, spell_value}
use Rattle.sheet.specs.Sheet.{Rule, Sheet, model_of}
use Rattle.sheet.specs.Reading.{sheet_in}
use Rattle.sheet.specs.Calls.{Verdict, read_call, outcome_of, evaluate_call}
use Rattle.sheet.specs.Report.{report_call, program}
use Rattle.sheet.specs.Profile.{profile_call}
use Rattle.sheet.specs.Rows.{rows_call}
use Rattle.sheet.specs.Origin.{origin_call}

-- every lent slice (document 01's word for the words and the output that a caller hands over) is at its minimum or above
pub record Lent (w0 w1 w2 : List ℕ) (out : Bytes) : Type 0 where
  pub words0 : least_words ≤ length w0
  pub words1 : least_words ≤ length w1
  pub words2 : least_words ≤ length w2
  pub output : least_output ≤ length out

-- a rule's reach is its root's
unfoldable pub rule_reach : Option Rule → ℕ
rule_reach none = 0
rule_reach (some x) = reach x.body

unfoldable pub reach_of : Bytes → ℕ → ℕ
reach_of text r = rule_reach (get_elem? (sheet_in text).rules r)

-- the object is of the rule's context class or below
unfoldable pub context_has : Sheet → Option Rule → ℕ → Bool
context_has s none o = false
context_has s (some x) o = is_a (model_of s) o (class x.context)

unfoldable pub of_context : Bytes → ℕ → ℕ → Bool
of_context text r o = context_has (sheet_in text) (get_elem? (sheet_in text).rules r) o

-- how evaluate may end for a rule of type t: undefined; a value of that type and of an allowed size whose numbers are kept and which
-- is formed; or a stop
pub data Ending (m : Model) (t : Ty) : Verdict → Type 0 where
  undefined_end : {n : ℕ} → Ending m t (record { number = 0; steps = n; place = 0; output = bytes "u" })
  value_end : {n : ℕ} (v : Value) → T (belongs m t v) → size v ≤ largest → T (numbers_kept v) → Formed v
      → Ending m t (record { number = 0; steps = n; place = 0; output = spell_value v })
  stop_end : {c n : ℕ} → Stop c → Ending m t (record { number = c; steps = n; place = 0; output = [] })

-- what evaluate comes to for rule r, of type t, and object o
pub record SoundCall (text : Bytes) (r o : ℕ) (t : Ty) (v : Verdict) : Type 0 where
  -- the evaluation never ends stuck
  pub not_stuck : (x : Rule) → get_elem? (sheet_in text).rules r ≡ some x → outcome_of (sheet_in text) x o ≢ stuck
  pub ending : Ending (model_of (sheet_in text)) t v
  -- the steps are within the rule's reach
  pub in_reach : v.steps ≤ reach_of text r
  -- no step stop where the reach is within the limit
  pub no_step_stop : reach_of text r ≤ most_steps → v.number ≢ 16

-- the text is accepted, rule r's type, which is its line, is t, and object o is of its context class or below
abbrev pub Demand3 : Type 0
Demand3 =
    (text : Bytes) (w0 w1 w2 : List ℕ) (out : Bytes) → Lent w0 w1 w2 out → (r o : ℕ) (t : Ty)
    → (read_call text w0 w1 w2 out).number ≡ 0
    → get_elem? (lines_of (read_call text w0 w1 w2 out).output) r ≡ some (spell_type t)
    → T (of_context text r o)
    → SoundCall text r o t (evaluate_call text r o w0 w1 w2 out)

-- what stands for stuck, 100 in `ended` and `!100` in a report, is never seen: each call's number is 0 or one of the documents', and
-- `!100` is nowhere in a report or in what the program prints
pub record NeverStuck (text : Bytes) (w0 w1 w2 : List ℕ) (out : Bytes) : Type 0 where
  pub read_number : (read_call text w0 w1 w2 out).number ≤ 24
  pub evaluate_number : (r o : ℕ) → (evaluate_call text r o w0 w1 w2 out).number ≤ 24
  pub profile_number : (profile_call text w0 w1 w2 out).number ≤ 24
  pub report_number : (report_call text w0 w1 w2 out).number ≤ 24
  pub rows_number : (rows_call text w0 w1 w2 out).number ≤ 24
  pub origin_number : (origin_call text w0 w1 w2 out).number ≤ 24
  pub report_bytes : (a b : Bytes) → (report_call text w0 w1 w2 out).output ≢ a ++ (bytes "!100" ++ b)
  pub program_bytes : (a b : Bytes) → program text ≢ a ++ (bytes "!100" ++ b)

-- whatever the text, accepted or not, and whatever is lent
abbrev pub NeverStuckLaw : Type 0
NeverStuckLaw = (text : Bytes) (w0 w1 w2 : List ℕ) (out : Bytes) → NeverStuck text w0 w1 w2 out
