-- `standing` meets its contract. Assumes nothing.
use Rattle.operations.proofs.StandingLaws.{standing_other, standing_some, standing_none}
use Rattle.operations.proofs.collect.standing.Goals as goal

pub returns-in-Some : goal.returns-in-Some
returns-in-Some c = search standing_some

pub returns-in-None : goal.returns-in-None
returns-in-None c = search standing_none

pub returns-else-has_row : goal.returns-else-has_row
returns-else-has_row c = search standing_other
