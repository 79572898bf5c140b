-- `oldest` meets its contract. Assumes nothing.
use Rattle.load.proofs.Record.{oldest_none, oldest_some}
use Rattle.load.proofs.window.oldest.Goals as goal

pub returns-then-t : goal.returns-then-t
returns-then-t c = search oldest_none

pub returns : goal.returns
returns c = search oldest_some
