-- `put_outcome` meets its contract.
use native.Mathlib.Omega.{arith}
use lib.ListN.{length}
use Rattle.answering.proofs.OutcomeLaws.{value_fits, gives_value, gives_undefined, gives_stuck, gives_stopped}
use Rattle.answering.proofs.evaluate.put_outcome.Goals as goal

pub overflow_add-len : goal.overflow_add-len
overflow_add-len c = let f = value_fits c.requires.2 c.in-Value.is (length c.args.out.now) c.requires.0 c.requires.1 in omega (arith, f.0)

pub put_value-requires : goal.put_value-requires
put_value-requires c = (value_fits c.requires.2 c.in-Value.is _ c.requires.0 c.requires.1).1

pub returns-in-Value : goal.returns-in-Value
returns-in-Value c = search gives_value

pub returns-in-Undef : goal.returns-in-Undef
returns-in-Undef c = search gives_undefined

pub returns-in-Stuck : goal.returns-in-Stuck
returns-in-Stuck c = search gives_stuck

pub returns-in-Stop : goal.returns-in-Stop
returns-in-Stop c = search gives_stopped
