-- `operations::apply::same_value` meets its contract. Assumes nothing.
use Rattle.operations.proofs.BinaryLaws.{same_done}
use Rattle.operations.proofs.apply.same_value.Goals as goal

pub returns : goal.returns
returns c = search same_done
