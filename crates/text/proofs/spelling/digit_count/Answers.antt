-- `digit_count` meets its contract. The number has k digits or more. Assumes nothing.
use borrow.Author.Rules.{rules}
use native.Mathlib.Omega.{arith}
use Rattle.sheet.proofs.Numbers.{digits_some}
use Rattle.text.proofs.DigitLaws.{powers, are_powers, count_here, count_next, count_last}
use Rattle.text.proofs.spelling.digit_count.Goals as goal

pub loop-k-init : goal.loop-k-init
unfolding powers
loop-k-init c = (are_powers, search rules, search rules, digits_some _)

pub returns-then-n-powers : goal.returns-then-n-powers
returns-then-n-powers c = search count_here

pub loop-k-preserved : goal.loop-k-preserved
loop-k-preserved c = (search rules, search rules, search rules, search count_next)

pub returns : goal.returns
returns c = count_last _ _ (search rules) (omega arith) (search rules)
