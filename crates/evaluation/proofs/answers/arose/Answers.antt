-- `evaluation::answers::arose` meets its contract. Assumes nothing.
use mathlib.Core.Path.{sym, ap}
use Rattle.outcomes.specs.declared.Ended.{Ended}
use Rattle.evaluation.specs.Traces.{arisen}
use Rattle.evaluation.proofs.answers.arose.Goals as goal

pub returns-in-Value : goal.returns-in-Value
returns-in-Value c = ap (λ (x : Ended). arisen x c.args.place) (sym c.in-Value.is)

pub returns-in-Undef : goal.returns-in-Undef
returns-in-Undef c = ap (λ (x : Ended). arisen x c.args.place) (sym c.in-Undef.is)

pub returns-in-Stop : goal.returns-in-Stop
returns-in-Stop c = ap (λ (x : Ended). arisen x c.args.place) (sym c.in-Stop.is)
