-- `class_known` meets its contract: one law for each answer.
use borrow.Author.Rules.{rules}
use borrow.Author.Tests.{tests}
use Rattle.declarations.proofs.KnownLaws.{known_without, known_class}
use Rattle.declarations.proofs.rows.class_known.Goals as goal

pub returns-then-tag-ne5 : goal.returns-then-tag-ne5
returns-then-tag-ne5 c = search (rules, tests, known_without)

pub returns-else-tag-ne5 : goal.returns-else-tag-ne5
returns-else-tag-ne5 c = search (rules, known_class)
