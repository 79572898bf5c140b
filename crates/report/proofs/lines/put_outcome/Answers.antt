-- `put_outcome` meets its contract. Assumes nothing.
use mathlib.Core.Path.{ap}
use native.Mathlib.Omega.{arith}
use lib.ListN.{length}
use Rattle.text.proofs.WrittenLaws.{puts_then}
use Rattle.report.proofs.LineLaws.{undefined_spelled, stuck_spelled, stop_spelled, value_fits, puts_value}
use Rattle.report.proofs.lines.put_outcome.Goals as goal

pub overflow_add-len : goal.overflow_add-len
overflow_add-len c = omega (arith, (value_fits c.in-Value.is c.requires).within)

pub put_value-requires : goal.put_value-requires
put_value-requires c = search value_fits

pub put_byte-requires : goal.put_byte-requires
put_byte-requires c = omega (arith, c.requires.enough, ap length (undefined_spelled c.requires.ends c.in-Undef.is))

pub put_bytes-requires : goal.put_bytes-requires
put_bytes-requires c = omega (arith, c.requires.enough, ap length (stuck_spelled c.requires.ends c.in-Stuck.is))

pub put_byte-digits-requires : goal.put_byte-digits-requires
put_byte-digits-requires c = omega (arith, c.requires.enough, ap length (stop_spelled c.requires.ends c.in-Stop.is))

pub put_number-requires : goal.put_number-requires
put_number-requires c = omega (arith, c.requires.enough, ap length (stop_spelled c.requires.ends c.in-Stop.is), c.put_byte-digits.ensures.end, c.put_byte-digits.auto.out)

pub returns-in-Value : goal.returns-in-Value
returns-in-Value c = search puts_value

pub returns-in-Undef : goal.returns-in-Undef
returns-in-Undef c x i = rw (undefined_spelled i c.in-Undef.is) c.put_byte.ensures

pub returns-in-Stuck : goal.returns-in-Stuck
returns-in-Stuck c x i = rw (stuck_spelled i c.in-Stuck.is) c.put_bytes.ensures

pub returns-in-Stop : goal.returns-in-Stop
returns-in-Stop c x i = rw (stop_spelled i c.in-Stop.is) (puts_then c.put_byte-digits.ensures c.put_number.ensures (omega (arith, c.requires.enough, ap length (stop_spelled c.requires.ends c.in-Stop.is))))
