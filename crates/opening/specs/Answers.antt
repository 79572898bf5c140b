-- What a public call promises: its answer and every word of what was lent are what the definition says.
use Rattle.std.specs.Prelude.{◌≡◌, List, ℕ, length}
use Rattle.sheet.specs.Text.{Bytes}
use Rattle.sheet.specs.Calls.{Verdict, words_after, output_after}
use Rattle.opening.specs.declared.Answer.{Answer}

-- number, steps and place as the definition gives them; the length is that of what is written
abbrev pub answer_of : Verdict → Answer
answer_of v = record { number = v.number; steps = v.steps; place = v.place; length = length v.output }

-- what is written stands in front of the output
pub record AnswersWith (v : Verdict) (r : Answer) (w0 w1 w2 : List ℕ) (out : Bytes) (v0 v1 v2 : List ℕ) (after : Bytes) : Type 0 where
  pub is : r ≡ answer_of v
  pub words0 : v0 ≡ words_after v w0
  pub words1 : v1 ≡ words_after v w1
  pub words2 : v2 ≡ words_after v w2
  pub output : after ≡ output_after v out
