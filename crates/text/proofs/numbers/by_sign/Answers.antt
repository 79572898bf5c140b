-- `by_sign` meets its contract. Each answer by the sign and the range. Assumes nothing.
use Rattle.text.proofs.IntegerLaws.{plus_in, plus_out, minus_zero, minus_in, minus_out}
use Rattle.text.proofs.numbers.by_sign.Goals as goal

pub returns-then-n-lt-ZERO : goal.returns-then-n-lt-ZERO
returns-then-n-lt-ZERO c = search plus_in

pub returns-then-minuses-eq0 : goal.returns-then-minuses-eq0
returns-then-minuses-eq0 c = search plus_out

pub returns-then-n-eq0 : goal.returns-then-n-eq0
returns-then-n-eq0 c = search minus_zero

pub returns-then-n-le-ZERO : goal.returns-then-n-le-ZERO
returns-then-n-le-ZERO c = search minus_in

pub returns : goal.returns
returns c = search minus_out
