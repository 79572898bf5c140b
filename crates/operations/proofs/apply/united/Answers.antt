-- `united` meets its contract. Assumes nothing.
use mathlib.Core.Path.{refl}
use native.Mathlib.Omega.{arith}
use Rattle.operations.proofs.BinaryLaws.{union_stuck, union_other, union_done}
use Rattle.operations.proofs.apply.united.Goals as goal
use Rattle.operations.proofs.apply.united.Goals.{then-sort-lt-SET-via-then-sort-lt-SET, then-sort-lt-SET-via-else-sort-lt-SET+then-sort_of-sort}

pub returns-then-sort-lt-SET : goal.returns-then-sort-lt-SET
returns-then-sort-lt-SET c =
    elim c.then-sort-lt-SET.branch [
      | then-sort-lt-SET-via-then-sort-lt-SET w ↦ search union_stuck
      | then-sort-lt-SET-via-else-sort-lt-SET+then-sort_of-sort w ↦ union_other c.sort_of-sort.ensures w.if-sort-lt-SET.false w.sort_of.ensures w.if-sort_of-sort.true
    ]

pub returns : goal.returns
returns c = union_done c.sort_of-sort.ensures c.if-sort-lt-SET.false c.sort_of.ensures _ c.if-sort_of-sort.false refl (omega arith) c.union.ensures c.formed.ensures
