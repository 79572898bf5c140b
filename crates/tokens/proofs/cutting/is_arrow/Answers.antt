-- `is_arrow` meets its contract.
use mathlib.Core.Path.{◌∙◌}
use Rattle.tokens.proofs.TokenLaws.{arrow_starts}
use Rattle.tokens.proofs.cutting.is_arrow.Goals as goal

pub returns : goal.returns
returns c = c.starts_with.ensures.value ∙ arrow_starts c.args.s.now c.args.at
