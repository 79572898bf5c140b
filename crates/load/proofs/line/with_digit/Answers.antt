-- `with_digit` meets its contract. Assumes nothing.
use Rattle.load.proofs.Lines.{digit_after_zero, digit_bad, digit_more}
use Rattle.load.proofs.line.with_digit.Goals as goal
use Rattle.load.proofs.line.with_digit.Goals.{then-n-eq0-via-then-n-eq0, then-n-eq0-via-else-n-eq0+then-byte_kind-ne-DIGIT}

pub returns-then-n-eq0 : goal.returns-then-n-eq0
returns-then-n-eq0 c = elim c.then-n-eq0.branch [
  | then-n-eq0-via-then-n-eq0 w ↦ digit_after_zero c.args.n c.args.b w.if-n-eq0.true
  | then-n-eq0-via-else-n-eq0+then-byte_kind-ne-DIGIT w ↦ digit_bad c.args.b w.byte_kind.ensures c.args.n w.if-n-eq0.false w.if-byte_kind-ne-DIGIT.true
]

pub returns : goal.returns
returns c = search digit_more
