-- `operation` meets its contract. Assumes nothing.
use Rattle.operations.proofs.NumberLaws.{nums_left, nums_right, nums_done}
use Rattle.operations.proofs.widened.operation.Goals as goal
use Rattle.operations.proofs.widened.operation.Goals.{then-sort_of-ne-NUMBER-via-then-sort_of-ne-NUMBER, then-sort_of-ne-NUMBER-via-else-sort_of-ne-NUMBER+then-sort_of-ne-NUMBER-2}

pub returns-then-sort_of-ne-NUMBER : goal.returns-then-sort_of-ne-NUMBER
returns-then-sort_of-ne-NUMBER c =
    elim c.then-sort_of-ne-NUMBER.branch [
      | then-sort_of-ne-NUMBER-via-then-sort_of-ne-NUMBER w ↦ search nums_left
      | then-sort_of-ne-NUMBER-via-else-sort_of-ne-NUMBER+then-sort_of-ne-NUMBER-2 w ↦ search nums_right
    ]

pub returns : goal.returns
returns c = search nums_done
