-- An evaluation's end and the answer for it.
use Rattle.std.specs.Prelude.{◌≡◌, List, ℕ, ◌≤◌, length}
use Rattle.ocl.specs.Values.{Value}
use Rattle.ocl.specs.Operations.{Outcome, value}
use Rattle.sheet.specs.Sizes.{least_output}
use Rattle.sheet.specs.Text.{Bytes}
use Rattle.sheet.specs.Spelling.{spell_value}
use Rattle.sheet.specs.Calls.{ended}
use Rattle.outcomes.specs.declared.Ended.{Ended}
use Rattle.outcomes.specs.Answers.{Ends}
use Rattle.opening.specs.declared.Answer.{Answer}
use Rattle.opening.specs.Parts.{GivesAnswer}

-- it is the end of an outcome whose value, if it has one, is spelled in at most 2,560 bytes
pub record Fitting (w2 : List ℕ) (e : Ended) : Type 0 where
  pub outcome : Outcome
  pub ends : Ends 1 w2 outcome e
  pub short : (v : Value) (n : ℕ) → outcome ≡ value v n → length (spell_value v) ≤ least_output

-- the answer for each outcome that it is the end of
pub record GivesEnded (w2 : List ℕ) (e : Ended) (a : Answer) (before after : Bytes) : Type 0 where
  pub for : (o : Outcome) → Ends 1 w2 o e → GivesAnswer (ended o) a before after
