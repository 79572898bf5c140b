-- `put_steps` meets its contract. Assumes nothing.
use native.Mathlib.Omega.{arith}
use mathlib.Core.Path.{◌∙◌}
use Rattle.text.proofs.WrittenLaws.{puts_then}
use Rattle.spelling.proofs.PutLaws.{puts_behind}
use Rattle.report.proofs.lines.put_steps.Goals as goal

pub returns : goal.returns
returns c = puts_behind (puts_then c.put_byte-digits.ensures c.put_number-end.ensures (omega (arith, c.requires))) (c.put_number-end.auto.out ∙ c.put_byte-digits.auto.out) c.put_byte.ensures c.put_byte.auto.out (omega arith)
