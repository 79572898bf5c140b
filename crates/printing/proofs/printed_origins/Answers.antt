-- `printed_origins` meets its contract: what the call that tells origins answers is printed. Assumes nothing.
use mathlib.Core.Path.{refl}
use native.Mathlib.Omega.{arith}
use Rattle.printing.proofs.Verdicts.{origins_printed}
use Rattle.printing.proofs.printed_origins.Goals as goal

pub returns : goal.returns
returns c = origins_printed c.args.text.now _ _ _ _ refl refl refl (omega arith) c.put_answer.ensures c.ocl_undefined-answer.ensures
