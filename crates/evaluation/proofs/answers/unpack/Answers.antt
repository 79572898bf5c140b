-- `evaluation::answers::unpack` meets its contract. Assumes nothing.
use Rattle.evaluation.proofs.Packing.{in_value, in_undefined, in_stuck, in_stop}
use Rattle.evaluation.proofs.answers.unpack.Goals as goal

pub returns-in-0 : goal.returns-in-0
returns-in-0 c = search in_value

pub returns-in-1 : goal.returns-in-1
returns-in-1 c = in_undefined _ c.in-1.is

pub returns-in-2 : goal.returns-in-2
returns-in-2 c = in_stuck _ c.in-2.is

pub returns-in_default : goal.returns-in_default
returns-in_default c = in_stop _ c.in_default.in_default-own.rest.0.0.1 c.in_default.in_default-own.rest.0.1 c.in_default.in_default-own.rest.1
