-- `placed` meets its contract. Assumes nothing.
use mathlib.Core.Path.{sym, ap}
use Rattle.reader.specs.Meanings.{placed_at}
use Rattle.reader.proofs.placed.Goals as goal

pub returns-in-Ok : goal.returns-in-Ok
returns-in-Ok c = ap (λ s. placed_at s c.args.k) (sym c.in-Ok.is)

pub returns-in-Err : goal.returns-in-Err
returns-in-Err c = rw c.at.ensures (ap (λ s. placed_at s c.args.k) (sym c.in-Err.is))
