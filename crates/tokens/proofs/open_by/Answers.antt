-- `open_by` meets its contract.
use Rattle.tokens.proofs.ScanLaws.{opening, closing, of_if, of_f, of_other}
use Rattle.tokens.proofs.open_by.Goals as goal

pub returns-in-40 : goal.returns-in-40
returns-in-40 c = search opening

pub returns-in-41 : goal.returns-in-41
returns-in-41 c = rw c.saturating_sub.ensures (search closing)

pub returns-in-102 : goal.returns-in-102
returns-in-102 c = search of_if

pub returns-in_default : goal.returns-in_default
returns-in_default c = search of_f

pub returns-in_default-2 : goal.returns-in_default-2
returns-in_default-2 c = search of_other
