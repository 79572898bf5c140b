-- `within_limits` meets its contract.
use Rattle.texts.specs.Judging.{text_limits}
use Rattle.texts.proofs.judging.within_limits.Goals as goal

pub returns-then-g : goal.returns-then-g
unfolding text_limits
returns-then-g c = rw c.if-g.true

pub returns-else-g : goal.returns-else-g
unfolding text_limits
returns-else-g c = rw c.if-g.false
