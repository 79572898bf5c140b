-- `operations::answers::formed` meets its contract. Assumes nothing.
use mathlib.Core.Path.{sym, ap}
use Rattle.outcomes.specs.Answers.{formed_as}
use Rattle.outcomes.proofs.answers.formed.Goals as goal
use Rattle.std.specs.Prelude.{Option as Optional, ℕ}

pub returns-in-Some : goal.returns-in-Some
returns-in-Some c = ap (λ (x : Optional ℕ). formed_as x c.args.steps) (sym c.in-Some.is)

pub returns-in-None : goal.returns-in-None
returns-in-None c = ap (λ (x : Optional ℕ). formed_as x c.args.steps) (sym c.in-None.is)
