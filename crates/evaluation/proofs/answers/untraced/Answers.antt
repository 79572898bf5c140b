-- `evaluation::answers::untraced` meets its contract. Assumes nothing.
use mathlib.Core.Path.{sym, ap}
use Rattle.evaluation.specs.Traces.{without_place}
use Rattle.evaluation.proofs.answers.untraced.Goals as goal

pub returns-in-Value : goal.returns-in-Value
returns-in-Value c = ap without_place (sym c.in-Value.is)

pub returns-in-Undef : goal.returns-in-Undef
returns-in-Undef c = ap without_place (sym c.in-Undef.is)

pub returns-in-Stop : goal.returns-in-Stop
returns-in-Stop c = ap without_place (sym c.in-Stop.is)
