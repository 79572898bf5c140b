-- `steps_of` meets its contract. Assumes nothing.
use mathlib.Core.Path.{sym, ap}
use Rattle.ocl.specs.Operations.{steps_of}
use Rattle.report.proofs.LineLaws.{outcome_is}
use Rattle.report.proofs.lines.steps_of.Goals as goal

pub returns-in-Value : goal.returns-in-Value
unfolding steps_of
returns-in-Value c S x i = sym (ap steps_of (outcome_is c.in-Value.is i).is)

pub returns-in-Undef : goal.returns-in-Undef
unfolding steps_of
returns-in-Undef c S x i = sym (ap steps_of (outcome_is c.in-Undef.is i))

pub returns-in-Stuck : goal.returns-in-Stuck
unfolding steps_of
returns-in-Stuck c S x i = sym (ap steps_of (outcome_is c.in-Stuck.is i))

pub returns-in-Stop : goal.returns-in-Stop
unfolding steps_of
returns-in-Stop c S x i = sym (ap steps_of (outcome_is c.in-Stop.is i))
