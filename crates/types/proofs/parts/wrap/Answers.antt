-- `wrap` meets its contract.
use Rattle.types.proofs.Members.{wrap_law}
use Rattle.types.proofs.parts.wrap.Goals as goal

pub returns : goal.returns
returns c = wrap_law _ c.args.t c.requires.code_nonzero c.requires.t_bound
