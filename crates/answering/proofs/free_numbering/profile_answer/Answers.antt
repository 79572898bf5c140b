-- `profile_answer` meets its contract. Assumes nothing.
use mathlib.Core.Path.{refl}
use Rattle.opening.proofs.Answers.{still_lent}
use Rattle.opening.proofs.Readings.{known_on}
use Rattle.answering.proofs.ReadCalls.{types_wait}
use Rattle.answering.proofs.ProfileCalls.{profile_given, profile_stopped}
use Rattle.answering.proofs.free_numbering.profile_answer.Goals as goal

pub profile_on-requires : goal.profile_on-requires
profile_on-requires c = let l = still_lent c.requires c.open_text.ensures in (l, search known_on, types_wait c.open_text.ensures c.in-Ok.is refl l)

pub returns-in-Ok : goal.returns-in-Ok
returns-in-Ok c = search profile_given

pub returns-in-Err : goal.returns-in-Err
returns-in-Err c = search profile_stopped
