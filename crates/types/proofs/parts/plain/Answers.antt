-- `plain` meets its contract.
use Rattle.types.proofs.Members.{bare_type}
use Rattle.types.proofs.parts.plain.Goals as goal

pub returns : goal.returns
returns c = bare_type _ _ c.no_letter.ensures
