-- `operations::apply::negate` meets its contract. Assumes nothing.
use Rattle.operations.proofs.OperationLaws.{negate_stuck, negate_done}
use Rattle.operations.proofs.apply.negate.Goals as goal

pub returns-then-t-gt1 : goal.returns-then-t-gt1
returns-then-t-gt1 c = search negate_stuck

pub returns : goal.returns
returns c = search negate_done
