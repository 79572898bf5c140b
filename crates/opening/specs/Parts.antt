-- What the parts of a call promise: the text opened, the answer for the accepted sheet in the words, the words wiped.
use Rattle.std.specs.Prelude.{◌≡◌, List, ℕ, Result, Ok, Err}
use Rattle.ocl.specs.Types.{Ty}
use Rattle.sheet.specs.Text.{Bytes}
use Rattle.sheet.specs.Sheet.{Sheet}
use Rattle.sheet.specs.Reading.{accepted, read_text}
use Rattle.sheet.specs.Calls.{Verdict, refusal_at, wiped, output_after, on_accepted}
use Rattle.tables.specs.declared.Counts.{Counts}
use Rattle.tables.specs.Layout.{Kept}
use Rattle.reader.specs.Meanings.{EndsAs}
use Rattle.rules.specs.Accepted.{InWords, Accepted, TypesIn}
use Rattle.opening.specs.declared.Answer.{Answer}
use Rattle.opening.specs.Answers.{answer_of}
use Rattle.memory.specs.Refusals.{at, number}
use Rattle.memory.specs.declared.refusals.Refused.{Refused}
use Rattle.memory.specs.declared.refusals.Refusal.{Refusal}

-- a text of any length: its sheet lies in the words, or it is refused
pub record ReadsText (text : Bytes) (r : Result Counts Refused) (w0 w1 w2 v0 v1 v2 : List ℕ) : Type 0 where
  pub is : EndsAs v0 v1 r (read_text text)
  pub kept0 : Kept w0 v0
  pub kept1 : Kept w1 v1
  pub kept2 : Kept w2 v2

-- a text that is read and whose definitions and rules are typed: its sheet is accepted, and the rules' types wait in w2; or, whatever
-- follows, it is refused
pub data OpensAs (text : Bytes) (v0 v1 v2 : List ℕ) : Result Counts Refused → Type 0 where
  opened : {st : Counts} (s : Sheet) (ts : List Ty) → read_text text ≡ accepted s → Accepted st v0 v1 s ts → TypesIn v2 ts
      → OpensAs text v0 v1 v2 (Ok st)
  refused : {e : Refusal} {k : ℕ} → ((f : Sheet → List Ty → Verdict) → on_accepted text f ≡ refusal_at (number e) k) → OpensAs text v0 v1 v2 (Err (at e k))

-- the sheet of a text that is read; w1 and w2 were u1 and u2
pub record AcceptsSheet (st : Counts) (w0 u1 u2 v1 v2 : List ℕ) (r : Result Counts Refused) : Type 0 where
  pub is : (text : Bytes) (s : Sheet) → read_text text ≡ accepted s → InWords st w0 u1 s → OpensAs text w0 v1 v2 r
  pub kept1 : Kept u1 v1
  pub kept2 : Kept u2 v2

pub record OpensText (text : Bytes) (r : Result Counts Refused) (w0 w1 w2 v0 v1 v2 : List ℕ) : Type 0 where
  pub is : OpensAs text v0 v1 v2 r
  pub kept0 : Kept w0 v0
  pub kept1 : Kept w1 v1
  pub kept2 : Kept w2 v2

-- the answer, and the output with what is written
pub record GivesAnswer (v : Verdict) (a : Answer) (before after : Bytes) : Type 0 where
  pub is : a ≡ answer_of v
  pub output : after ≡ output_after v before

-- for each accepted sheet in the words, whose types wait in w2
pub record GivesFor (st : Counts) (w0 w1 w2 : List ℕ) (f : Sheet → List Ty → Verdict) (a : Answer) (before after : Bytes) : Type 0 where
  pub for : (s : Sheet) (ts : List Ty) → Accepted st w0 w1 s ts → TypesIn w2 ts → GivesAnswer (f s ts) a before after

-- an answer, with words that are still to be wiped
pub record Leaves (v : Verdict) (a : Answer) (w0 w1 w2 : List ℕ) (out : Bytes) (v0 v1 v2 : List ℕ) (after : Bytes) : Type 0 where
  pub gives : GivesAnswer v a out after
  pub kept0 : Kept w0 v0
  pub kept1 : Kept w1 v1
  pub kept2 : Kept w2 v2

pub record Wipes (w0 w1 w2 v0 v1 v2 : List ℕ) : Type 0 where
  pub words0 : v0 ≡ wiped w0
  pub words1 : v1 ≡ wiped w1
  pub words2 : v2 ≡ wiped w2

-- the bytes before r are what was written, and it took so many steps
abbrev pub written_to : ℕ → ℕ → Answer
written_to r steps = record { number = 0; steps = steps; place = 0; length = r }
