-- `values::cells::push_cells` meets its contract. Assumes nothing.
use native.Mathlib.Omega.{arith}
use Rattle.values.proofs.Forming.{brings_over, brings_done}
use Rattle.values.proofs.cells.push_cells.Goals as goal

pub returns-then-len-gt-LARGEST : goal.returns-then-len-gt-LARGEST
returns-then-len-gt-LARGEST c = brings_over (omega arith) (omega arith) c.if-len-gt-LARGEST.true

pub returns : goal.returns
returns c = brings_done (omega arith) (omega arith) (omega arith) (omega arith) c.copy_cells.ensures
