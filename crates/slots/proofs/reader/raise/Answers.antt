-- `slots::reader::raise` meets its contract. Assumes nothing.
use Rattle.slots.proofs.CountLaws.{raised_over, raised}
use lib.ListN.{get_or}
use Prim.Native.Nat.{ℕ}
use mathlib.Core.Path.{ap}
use native.Mathlib.Omega.{arith}
use Rattle.slots.proofs.reader.raise.Goals as goal

pub returns-then-o-gt-LARGEST : goal.returns-then-o-gt-LARGEST
returns-then-o-gt-LARGEST c = raised_over (omega arith)

pub offset_bounds-cells-h : goal.offset_bounds-cells-h
offset_bounds-cells-h c = omega (arith, c.header-h.ensures, (c.requires (omega arith)).0)

pub bounds-cells-h : goal.bounds-cells-h
bounds-cells-h c = omega (arith, c.header-h.ensures, (c.requires (omega arith)).0)

pub overflow_add-cells : goal.overflow_add-cells
overflow_add-cells c = omega (arith, ap (λ (n : ℕ). get_or c.args.cells.now n 0) c.header-h.ensures, (c.requires (omega arith)).1)

pub bounds-cells-h-2 : goal.bounds-cells-h-2
bounds-cells-h-2 c = omega (arith, c.header-h.ensures, (c.requires (omega arith)).0)

pub returns : goal.returns
returns c = search raised
