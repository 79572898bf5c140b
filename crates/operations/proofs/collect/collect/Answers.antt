-- `collect` meets its contract. Assumes nothing.
use native.Mathlib.Omega.{arith}
use Rattle.operations.proofs.CollectLaws.{kind_small, few_cells, collect_other, collect_stuck, collect_undefined, collect_over, collect_done}
use Rattle.operations.proofs.collect.collect.Goals as goal

pub returns-then-sort_of-lt-SET : goal.returns-then-sort_of-lt-SET
returns-then-sort_of-lt-SET c = search collect_other

pub returns-then-all-gt1 : goal.returns-then-all-gt1
returns-then-all-gt1 c = search collect_stuck

pub returns-then-all-eq1 : goal.returns-then-all-eq1
returns-then-all-eq1 c = search collect_undefined

pub returns-in_default : goal.returns-in_default
returns-in_default c = search collect_over

pub overflow_add-end-2 : goal.overflow_add-end-2
overflow_add-end-2 c = omega (arith, few_cells c.bring_all-brought.ensures.few c.in-Value.is, c.requires)

pub assemble-requires : goal.assemble-requires
assemble-requires c = omega (arith, few_cells c.bring_all-brought.ensures.few c.in-Value.is, kind_small _ c.kind_marked.ensures, c.requires, c.bring_all-brought.auto)

pub returns : goal.returns
returns c = search collect_done
