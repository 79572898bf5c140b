-- `values::cells::cell_of` meets its contract. Assumes nothing.
use native.Mathlib.Omega.{arith}
use mathlib.Core.Path.{◌∙◌}
use Rattle.values.proofs.Scanning.{cell_bool, cell_int, cell_real, cell_obj, bit_byte, narrow_int, narrow_real, narrow_obj}
use Rattle.values.proofs.cells.cell_of.Goals as goal

pub integer_cell-requires : goal.integer_cell-requires
integer_cell-requires c = search narrow_int

pub cell_of-requires : goal.cell_of-requires
cell_of-requires c = search narrow_real

pub overflow_add-result : goal.overflow_add-result
overflow_add-result c = omega (arith, narrow_obj c.requires c.in-Object.is)

pub returns-in-Bool : goal.returns-in-Bool
returns-in-Bool c = cell_bool c.in-Bool.is (c.from.ensures ∙ bit_byte c.in-Bool.b)

pub returns-in-Integer : goal.returns-in-Integer
returns-in-Integer c = search cell_int

pub returns-in-Real : goal.returns-in-Real
returns-in-Real c = search cell_real

pub returns-in-Object : goal.returns-in-Object
returns-in-Object c = search cell_obj
