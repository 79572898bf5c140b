-- `values::order::compare` meets its contract. Assumes nothing.
use Rattle.values.proofs.Comparing.{compared}
use Rattle.values.proofs.order.compare.Goals as goal

pub returns : goal.returns
returns c = let a = c.args in compared a.stack.now a.p a.n a.q a.m _ c.cmp.ensures
