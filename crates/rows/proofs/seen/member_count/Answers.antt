-- `member_count` meets its contract. Assumes nothing.
use Rattle.rows.proofs.SeenLaws.{many_members, few_members}
use Rattle.rows.proofs.seen.member_count.Goals as goal

pub returns-then-count-gt4 : goal.returns-then-count-gt4
returns-then-count-gt4 c = search many_members

pub returns : goal.returns
returns c = search few_members
