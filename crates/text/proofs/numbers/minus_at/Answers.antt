-- `minus_at` meets its contract. By the byte at the position, if there is one. Assumes nothing.
use Rattle.text.proofs.IntegerLaws.{minus_here, minus_not, minus_past}
use Rattle.text.proofs.numbers.minus_at.Goals.{else-at-s-via-then-at-s+else-s-at-eq45, else-at-s-via-else-at-s}
use Rattle.text.proofs.numbers.minus_at.Goals as goal

pub returns-then-s-at-eq45 : goal.returns-then-s-at-eq45
returns-then-s-at-eq45 c = search minus_here

pub returns-else-at-s : goal.returns-else-at-s
returns-else-at-s c = elim c.else-at-s.branch [
  | else-at-s-via-then-at-s+else-s-at-eq45 w ↦ search minus_not
  | else-at-s-via-else-at-s w ↦ minus_past _ _ w.if-at-s.false
]
