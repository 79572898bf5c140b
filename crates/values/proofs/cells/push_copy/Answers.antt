-- `values::cells::push_copy` meets its contract. Assumes nothing.
use mathlib.Core.Logic.{inr}
use native.Mathlib.Omega.{arith}
use Rattle.values.proofs.Forming.{copies_over, copies_done}
use Rattle.values.proofs.cells.push_copy.Goals as goal

pub returns-then-len-gt-LARGEST : goal.returns-then-len-gt-LARGEST
returns-then-len-gt-LARGEST c = copies_over (omega arith) (omega arith) c.skip.ensures c.if-len-gt-LARGEST.true

pub slide-requires : goal.slide-requires
slide-requires c = record { len_in_bounds = omega arith; fact = inr (omega arith) }

pub returns : goal.returns
returns c = copies_done (omega arith) (omega arith) c.skip.ensures (omega arith) c.slide.ensures.front
