-- `operations::apply::member_total` meets its contract. Assumes nothing.
use Rattle.operations.proofs.OperationLaws.{total_stuck, total_over, total_done}
use Rattle.operations.proofs.apply.member_total.Goals as goal

pub returns-then-sort_of-lt-SET : goal.returns-then-sort_of-lt-SET
returns-then-sort_of-lt-SET c = search total_stuck

pub returns-then-count-gt-LARGEST_SIZE : goal.returns-then-count-gt-LARGEST_SIZE
returns-then-count-gt-LARGEST_SIZE c = search total_over

pub returns : goal.returns
returns c = search total_done
