-- `ocl_read_free_numbering` meets its contract. Assumes nothing.
use Rattle.sheet.specs.Profile.{profile_call}
use Rattle.opening.proofs.Answers.{all_lent, still_long, short_call, long_call}
use Rattle.answering.proofs.ProfileCalls.{profile_number}
use Rattle.checker.proofs.profile_call.ocl_read_free_numbering.Goals as goal

pub returns-then-short_lent : goal.returns-then-short_lent
unfolding profile_call
returns-then-short_lent c = search short_call

pub profile_answer-a-requires : goal.profile_answer-a-requires
profile_answer-a-requires c = all_lent c.short_lent.ensures c.if-short_lent.false

pub wipe_all-requires : goal.wipe_all-requires
wipe_all-requires c = still_long (all_lent c.short_lent.ensures c.if-short_lent.false) c.profile_answer-a.ensures

pub returns : goal.returns
unfolding profile_call
returns c = search (long_call, profile_number)
