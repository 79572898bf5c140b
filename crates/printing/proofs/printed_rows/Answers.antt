-- `printed_rows` meets its contract: what the call that tells rows answers is printed. Assumes nothing.
use mathlib.Core.Path.{refl}
use native.Mathlib.Omega.{arith}
use Rattle.printing.proofs.Verdicts.{rows_printed}
use Rattle.printing.proofs.printed_rows.Goals as goal

pub returns : goal.returns
returns c = rows_printed c.args.text.now _ _ _ _ refl refl refl (omega arith) c.put_answer.ensures c.ocl_rows-answer.ensures
