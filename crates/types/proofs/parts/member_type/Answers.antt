-- `member_type` meets its contract.
use Rattle.types.proofs.Members.{member_ends, member_on}
use Rattle.types.proofs.parts.member_type.Goals as goal

pub returns-then-t-eq0 : goal.returns-then-t-eq0
returns-then-t-eq0 c = search member_ends

pub returns-else-t-eq0 : goal.returns-else-t-eq0
returns-else-t-eq0 c = search member_on
