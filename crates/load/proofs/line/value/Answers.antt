-- `value` meets its contract. Assumes nothing.
use borrow.Author.Rules.{rules}
use Rattle.load.proofs.Lines.{line_value}
use Rattle.load.proofs.line.value.Goals as goal

pub returns-in_err-line : goal.returns-in_err-line
returns-in_err-line c = line_value (search rules)

pub returns-in-None : goal.returns-in-None
returns-in-None c = line_value (search rules)

pub returns-in-Some : goal.returns-in-Some
returns-in-Some c = line_value (search rules)
