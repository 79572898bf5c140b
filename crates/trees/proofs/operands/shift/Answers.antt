-- `shift` meets its contract.
use Rattle.trees.proofs.OperandLaws.{shift_room, shift_code, shift_operand, shift_other}
use native.Mathlib.Omega.{arith}
use Rattle.trees.proofs.operands.shift.Goals as goal
use Rattle.trees.proofs.operands.shift.Goals.{else-k-ge1-via-then-k-ge1+else-k-count, else-k-ge1-via-else-k-ge1}

pub overflow_add-result : goal.overflow_add-result
overflow_add-result c = omega (arith, shift_room c.args.words c.args.count 0 c.args.k c.requires.2 (λ e. omega arith) c.if-k-count.true)

pub returns-then-k-count : goal.returns-then-k-count
returns-then-k-count c = shift_operand _ _ _ _ (λ e. omega arith) c.if-k-count.true

pub returns-else-k-ge1 : goal.returns-else-k-ge1
returns-else-k-ge1 c = elim c.else-k-ge1.branch [
  | else-k-ge1-via-then-k-ge1+else-k-count w ↦ shift_other _ _ _ _ (λ e. omega arith) w.if-k-count.false
  | else-k-ge1-via-else-k-ge1 w ↦ shift_code _ _ _ _ (omega arith)
]
