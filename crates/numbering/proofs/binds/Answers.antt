-- `binds` meets its contract. Assumes nothing.
use Rattle.numbering.proofs.Codes.{binds_one, binds_quantified, binds_early, binds_none}
use Rattle.numbering.proofs.binds.Goals as goal

pub returns-in-32 : goal.returns-in-32
returns-in-32 c = search binds_one

pub returns-in-32-2 : goal.returns-in-32-2
returns-in-32-2 c = search binds_quantified

pub returns-in_default : goal.returns-in_default
returns-in_default c = search (binds_early, binds_none)

pub returns-in_default-2 : goal.returns-in_default-2
returns-in_default-2 c = search (binds_early, binds_none)
