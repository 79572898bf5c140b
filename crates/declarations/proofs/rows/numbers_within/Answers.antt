-- `numbers_within` meets its contract: one law for each answer.
use borrow.Author.Rules.{rules}
use borrow.Author.Tests.{tests}
use Rattle.sheet.specs.Limits.{is_class}
use Rattle.declarations.proofs.rows.numbers_within.Goals as goal
use Rattle.declarations.proofs.rows.numbers_within.Goals.{then-n-lt-MOST_ROWS, else-n-lt-MOST_ROWS}

pub returns-then-c-lt-MOST_CLASSES : goal.returns-then-c-lt-MOST_CLASSES
unfolding is_class
returns-then-c-lt-MOST_CLASSES c = elim c.if-n-lt-MOST_ROWS.branch [
  | then-n-lt-MOST_ROWS w ↦ search (rules, tests)
  | else-n-lt-MOST_ROWS w ↦ search (rules, tests)
]

pub returns-else-c-lt-MOST_CLASSES : goal.returns-else-c-lt-MOST_CLASSES
unfolding is_class
returns-else-c-lt-MOST_CLASSES c = elim c.if-n-lt-MOST_ROWS.branch [
  | then-n-lt-MOST_ROWS w ↦ search (rules, tests)
  | else-n-lt-MOST_ROWS w ↦ search (rules, tests)
]
