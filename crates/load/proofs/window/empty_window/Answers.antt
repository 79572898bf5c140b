-- `empty_window` meets its contract. Assumes nothing.
use Rattle.load.specs.Record.{empty_window}
use Rattle.load.proofs.Record.{fresh}
use Rattle.load.proofs.window.empty_window.Goals as goal

pub returns : goal.returns
unfolding empty_window
returns c = fresh c.args.width
