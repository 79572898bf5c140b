-- Room for a line of the report, and for the outcome in it, which is any that the answer of an evaluation stands for; and the line that says
-- where undefined came from, by the answer.
use Rattle.std.specs.Prelude.{List, [], ℕ, ◌+◌, ◌/◌, ◌%◌, ◌≤◌, length}
use Rattle.memory.specs.Map as memory
use Rattle.ocl.specs.Operations.{Outcome}
use Rattle.sheet.specs.Text.{Bytes}
use Rattle.sheet.specs.Report.{spell_outcome, report_line}
use Rattle.sheet.specs.Origin.{place_line}
use Rattle.nodes.specs.Nodes.{word}
use Rattle.outcomes.specs.Answers.{Ends}
use Rattle.outcomes.specs.declared.Ended.{Ended}
use Rattle.evaluation.specs.declared.Traced.{Traced}
use Rattle.evaluation.specs.declared.Traced.TheVariants as traced

pub record OutcomeFits (at : ℕ) (stack : List ℕ) (e : Ended) (room : ℕ) : Type 0 where
  pub outcome : Outcome
  pub ends : Ends 1 stack outcome e
  pub enough : at + length (spell_outcome outcome) ≤ room

pub record LineFits (at rule object : ℕ) (stack : List ℕ) (e : Ended) (room : ℕ) : Type 0 where
  pub outcome : Outcome
  pub ends : Ends 1 stack outcome e
  pub enough : at + length (report_line rule object outcome) ≤ room

pub record PlaceFits (at rule object line step room : ℕ) : Type 0 where
  pub enough : at + length (place_line rule object line step) ≤ room

-- the node's line is its word 7
unfoldable pub origin_by : ℕ → ℕ → List ℕ → Traced → Bytes
origin_by r o w1 (traced.Value len n) = []
origin_by r o w1 (traced.Undef n place) = place_line r o (word w1 (place % memory.place_step) 7) (place / memory.place_step)
origin_by r o w1 traced.Stuck = []
origin_by r o w1 (traced.Stop c n) = []

pub record OriginFits (at rule object : ℕ) (w1 : List ℕ) (t : Traced) (room : ℕ) : Type 0 where
  pub enough : at + length (origin_by rule object w1 t) ≤ room
