-- `own_row` meets its contract. Assumes nothing.
use Rattle.rows.proofs.SeenLaws.{before_own, behind_own, at_own}
use Rattle.rows.proofs.seen.own_row.Goals as goal

pub returns-in-33-to-34 : goal.returns-in-33-to-34
returns-in-33-to-34 c = search at_own

pub returns-in_default : goal.returns-in_default
returns-in_default c = search (before_own, behind_own)

pub returns-in_default-2 : goal.returns-in_default-2
returns-in_default-2 c = search (before_own, behind_own)
