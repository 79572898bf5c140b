-- `called` meets its contract.
use Rattle.texts.proofs.GatherLaws.{called_none, called_low, called_far}
use Rattle.texts.proofs.gathering.called.Goals as goal

pub returns-then-not-is_call : goal.returns-then-not-is_call
returns-then-not-is_call c = search called_none

pub returns-then-words-lt-MOST_DEFINITIONS : goal.returns-then-words-lt-MOST_DEFINITIONS
returns-then-words-lt-MOST_DEFINITIONS c = search called_low

pub returns-else-words-lt-MOST_DEFINITIONS : goal.returns-else-words-lt-MOST_DEFINITIONS
returns-else-words-lt-MOST_DEFINITIONS c = search called_far
