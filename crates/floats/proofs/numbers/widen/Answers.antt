-- `widen` meets its contract. Assumes nothing.
use native.Mathlib.Omega.{arith}
use Rattle.floats.proofs.Casting.{in_float_lem, widen_above, widen_below}
use Rattle.floats.proofs.numbers.widen.Goals as goal

pub int_to_float-result : goal.int_to_float-result
int_to_float-result c = in_float_lem _ (omega arith)

pub int_to_float-result-else-biased-lt-ZERO : goal.int_to_float-result-else-biased-lt-ZERO
int_to_float-result-else-biased-lt-ZERO c = in_float_lem _ (omega arith)

pub returns-then-biased-lt-ZERO : goal.returns-then-biased-lt-ZERO
returns-then-biased-lt-ZERO c = search widen_below

pub returns-else-biased-lt-ZERO : goal.returns-else-biased-lt-ZERO
returns-else-biased-lt-ZERO c = search widen_above
