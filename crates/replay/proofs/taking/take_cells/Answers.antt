-- `replay::taking::take_cells` meets its contract. Assumes nothing.
use native.Mathlib.Omega.{arith}
use borrow.Author.Tests.{not-true}
use Rattle.replay.proofs.CopyLaws.{no_cells, no_room, put_cells}
use Rattle.replay.proofs.taking.take_cells.Goals as goal

pub returns-then-not-is_value : goal.returns-then-not-is_value
returns-then-not-is_value c = search (no_cells, not-true)

pub returns-then-used-cells : goal.returns-then-used-cells
returns-then-used-cells c = λ w1. no_room _ w1 c.is_value.ensures c.requires.1.fine (let u = c.wide-used.ensures in omega arith)

pub returns : goal.returns
returns c = λ w1. put_cells _ w1 c.is_value.ensures c.if-not-is_value.false c.requires.3 c.requires.1.fine c.requires.0 (let u = c.wide-used.ensures in let f = c.requires.1.fine.cells in omega arith) c.wide-used.ensures c.copy_cells.ensures c.copy_cells.auto.stack (c.put_slot.ensures w1 1)
