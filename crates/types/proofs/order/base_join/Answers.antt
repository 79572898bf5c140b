-- `base_join` meets its contract: by the tags of the two bases.
use Rattle.types.proofs.Bases.{joins_left, joins_right, joins_class, joins_off, joins_wide, joins_back, joins_same, joins_apart}
use Rattle.types.proofs.order.base_join.Goals as goal

pub returns-then-x-eq0 : goal.returns-then-x-eq0
returns-then-x-eq0 c = search joins_left

pub returns-then-y-eq0 : goal.returns-then-y-eq0
returns-then-y-eq0 c = search joins_right

pub returns-then-y-eq5 : goal.returns-then-y-eq5
returns-then-y-eq5 c = search joins_class

pub returns-then-x-eq5 : goal.returns-then-x-eq5
returns-then-x-eq5 c = search joins_off

pub returns-then-widens : goal.returns-then-widens
returns-then-widens c = search joins_wide

pub returns-then-widens-2 : goal.returns-then-widens-2
returns-then-widens-2 c = search joins_back

pub returns-then-x-y : goal.returns-then-x-y
returns-then-x-y c = search joins_same

pub returns : goal.returns
returns c = search joins_apart
