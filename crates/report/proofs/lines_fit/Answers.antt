-- `lines_fit` meets its contract. Assumes nothing.
use Rattle.report.proofs.SheetLaws.{tells_length, tells_bound}
use Rattle.report.proofs.lines_fit.Goals as goal

pub returns-then-bound-room : goal.returns-then-bound-room
returns-then-bound-room c = tells_bound _ c.if-bound-room.true

pub returns-else-bound-room : goal.returns-else-bound-room
returns-else-bound-room c = search tells_length
