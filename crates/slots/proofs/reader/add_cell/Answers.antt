-- `slots::reader::add_cell` meets its contract. Assumes nothing.
use Rattle.slots.proofs.CellLaws.{added_cell, added_full}
use mathlib.Core.Path.{refl}
use native.Mathlib.Omega.{arith}
use Rattle.slots.proofs.reader.add_cell.Goals as goal

pub returns-then-n-cells : goal.returns-then-n-cells
returns-then-n-cells c = added_cell _ (omega arith) (omega arith) refl

pub returns : goal.returns
returns c = added_full _ (λ x y. omega arith) refl
