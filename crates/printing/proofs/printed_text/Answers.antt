-- `printed_text` meets its contract: what the report call answers is printed. Assumes nothing.
use mathlib.Core.Path.{refl}
use native.Mathlib.Omega.{arith}
use Rattle.printing.proofs.Verdicts.{report_printed}
use Rattle.printing.proofs.printed_text.Goals as goal

pub returns : goal.returns
returns c = report_printed c.args.text.now _ _ _ _ refl refl refl (omega arith) c.put_answer.ensures c.ocl_report-answer.ensures
