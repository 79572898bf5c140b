-- `subtype` meets its contract.
use Rattle.types.proofs.Levels.{subtype_law}
use Rattle.types.proofs.order.subtype.Goals as goal

pub returns : goal.returns
returns c = search subtype_law
