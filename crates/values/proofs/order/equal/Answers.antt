-- `values::order::equal` meets its contract. Assumes nothing.
use Rattle.values.proofs.Comparing.{same_at}
use Rattle.values.proofs.order.equal.Goals as goal

pub returns : goal.returns
returns c = rw c.is_eq.ensures (same_at c.compare.ensures)
