-- `late_count` meets its contract. Assumes nothing.
use borrow.Author.Rules.{rules}
use native.Mathlib.Omega.{arith}
use Rattle.numbering.proofs.Codes.{three_late, two_late, one_late}
use Rattle.numbering.proofs.late_count.Goals as goal

pub returns-in-31 : goal.returns-in-31
returns-in-31 c = search three_late

pub returns-in-35 : goal.returns-in-35
returns-in-35 c = search two_late

pub returns-in_default : goal.returns-in_default
returns-in_default c = one_late _ (omega arith) (search rules)
