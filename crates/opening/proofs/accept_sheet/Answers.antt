-- `accept_sheet` meets its contract. Assumes nothing.
use Rattle.opening.proofs.Readings.{accepts_sheet, accepts_none}
use Rattle.opening.proofs.accept_sheet.Goals as goal

pub returns-in-Ok : goal.returns-in-Ok
returns-in-Ok c = accepts_sheet c.accept.ensures c.in-Ok.is

pub returns-in-Err : goal.returns-in-Err
returns-in-Err c = accepts_none c.accept.ensures c.in-Err.is
