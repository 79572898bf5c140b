-- `outer_code` meets its contract.
use Rattle.types.proofs.Members.{outer_low, outer_high}
use Rattle.types.proofs.parts.outer_code.Goals as goal

pub returns-then-t-gt-BAG : goal.returns-then-t-gt-BAG
returns-then-t-gt-BAG c = search outer_high

pub returns-else-t-gt-BAG : goal.returns-else-t-gt-BAG
returns-else-t-gt-BAG c = search outer_low
