-- `byte_kind` meets its contract. Each arm by the tests of `byte_kind`. Assumes nothing.
use Rattle.sheet.specs.Text.{is_digit}
use Rattle.text.specs.Words.{byte_kind}
use Rattle.text.proofs.WordLaws.{digit_is, below_digits, above_digits, kind_digit, kind_other}
use Rattle.text.proofs.words.byte_kind.Goals as goal

pub returns-in-67 : goal.returns-in-67
unfolding byte_kind is_digit
returns-in-67 c = rw c.in-67.is

pub returns-in-65 : goal.returns-in-65
unfolding byte_kind is_digit
returns-in-65 c = rw c.in-65.is

pub returns-in-79 : goal.returns-in-79
unfolding byte_kind is_digit
returns-in-79 c = rw c.in-79.is

pub returns-in-86 : goal.returns-in-86
unfolding byte_kind is_digit
returns-in-86 c = rw c.in-86.is

pub returns-in-82 : goal.returns-in-82
unfolding byte_kind is_digit
returns-in-82 c = rw c.in-82.is

pub returns-in-78 : goal.returns-in-78
unfolding byte_kind is_digit
returns-in-78 c = rw c.in-78.is

pub returns-in-68 : goal.returns-in-68
unfolding byte_kind is_digit
returns-in-68 c = rw c.in-68.is

pub returns-in-88 : goal.returns-in-88
unfolding byte_kind is_digit
returns-in-88 c = rw c.in-88.is

pub returns-in-48-to-57 : goal.returns-in-48-to-57
returns-in-48-to-57 c = search (kind_digit, digit_is)

pub returns-in_default : goal.returns-in_default
returns-in_default c = search (kind_other, below_digits)

pub returns-in_default-2 : goal.returns-in_default-2
returns-in_default-2 c = search (kind_other, above_digits)
