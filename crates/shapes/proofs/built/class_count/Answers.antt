-- `class_count` meets its contract.
use Rattle.shapes.specs.Built.{class_count}
use borrow.Author.Tests.{lt-ltb, le-ltb}
use Rattle.shapes.proofs.built.class_count.Goals as goal

pub returns-then-c-lt-MOST_CLASSES : goal.returns-then-c-lt-MOST_CLASSES
unfolding class_count
returns-then-c-lt-MOST_CLASSES c = rw (lt-ltb _ 64 c.if-c-lt-MOST_CLASSES.true)

pub returns-else-c-lt-MOST_CLASSES : goal.returns-else-c-lt-MOST_CLASSES
unfolding class_count
returns-else-c-lt-MOST_CLASSES c = rw (le-ltb _ 64 c.if-c-lt-MOST_CLASSES.false)
