-- `values::cells::push` meets its contract. Assumes nothing.
use native.Mathlib.Omega.{arith}
use Rattle.values.proofs.Scanning.{pushed}
use Rattle.values.proofs.cells.push.Goals as goal

pub returns : goal.returns
returns c = pushed c.cell_of.ensures (omega arith)
