-- `is_variable` meets its contract.
use Rattle.sheet.specs.Limits.{is_variable}
use borrow.Author.Tests.{le-leb, lt-leb}
use Rattle.shapes.proofs.built.is_variable.Goals as goal

pub returns-then-i-ge1 : goal.returns-then-i-ge1
unfolding is_variable
returns-then-i-ge1 c = rw (le-leb 1 _ c.if-i-ge1.true)

pub returns-else-i-ge1 : goal.returns-else-i-ge1
unfolding is_variable
returns-else-i-ge1 c = rw (lt-leb 1 _ c.if-i-ge1.false)
