-- `values::cells::member_count` meets its contract. Assumes nothing.
use Rattle.values.proofs.Scanning.{kids_low, kids_high}
use Rattle.values.proofs.cells.member_count.Goals as goal

pub returns-then-cell-lt-COLLECTIONS : goal.returns-then-cell-lt-COLLECTIONS
returns-then-cell-lt-COLLECTIONS c = kids_low _ c.if-cell-lt-COLLECTIONS.true

pub returns-else-cell-lt-COLLECTIONS : goal.returns-else-cell-lt-COLLECTIONS
returns-else-cell-lt-COLLECTIONS c = kids_high _ _ c.if-cell-lt-COLLECTIONS.false c.wide.ensures
