-- What the lines of a call come to. Assumes nothing.
use mathlib.Core.Path.{◌≡◌}
use Prim.Native.Nat.{ℕ}
use Rattle.sheet.specs.Calls.{Verdict, answer, refusal_at, refusal}
use Rattle.report.specs.Reports.{SaysReport, written, too_long}
use Rattle.opening.specs.declared.Answer.{Answer}
use Rattle.opening.specs.Answers.{answer_of}
use Rattle.opening.specs.Parts.{written_to}
use Rattle.std.specs.Prelude.{Option as Optional, Some, None}

module _ {a : Answer} {r : Optional ℕ} where
  pub lines_written : {n : ℕ} → r ≡ Some n → a ≡ written_to n 0 → (v : Verdict) → SaysReport r v → a ≡ answer_of v
  unfolding answer
  lines_written {n} q e v z = by v (rw q at z)
    where
      by : (v : Verdict) → SaysReport (Some n) v → a ≡ answer_of v
      by _ (written b l) = rw l at e

  pub lines_short : r ≡ None → a ≡ answer_of (refusal_at 18 0) → (v : Verdict) → SaysReport r v → a ≡ answer_of v
  unfolding refusal
  lines_short q e v z = by v (rw q at z)
    where
      by : (v : Verdict) → SaysReport None v → a ≡ answer_of v
      by _ too_long = e
