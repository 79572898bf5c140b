-- `depth` meets its contract.
use Rattle.types.proofs.Members.{depth_ends, depth_one, depth_two, depth_three}
use Rattle.types.proofs.parts.depth.Goals as goal

pub returns-then-t-eq0 : goal.returns-then-t-eq0
returns-then-t-eq0 c = search depth_ends

pub returns-then-t-eq0-2 : goal.returns-then-t-eq0-2
returns-then-t-eq0-2 c = search depth_one

pub returns-then-t-eq0-3 : goal.returns-then-t-eq0-3
returns-then-t-eq0-3 c = search depth_two

pub returns : goal.returns
returns c = search depth_three
