-- `profile_on` meets its contract. Assumes nothing.
use borrow.Author.Rules.{rules}
use Rattle.answering.proofs.ProfileCalls.{still_waiting, types_kept, outside_given, within_given}
use Rattle.answering.proofs.free_numbering.profile_on.Goals as goal

pub returns-then-p-lt-NODES : goal.returns-then-p-lt-NODES
returns-then-p-lt-NODES c = let e = rw c.at.ensures at c.from.ensures in search (outside_given, types_kept, e)

pub put_types-requires : goal.put_types-requires
put_types-requires c = search (still_waiting, rules)

pub returns : goal.returns
returns c = search (within_given, types_kept)
