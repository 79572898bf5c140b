-- `slots::parts::object_at` meets its contract. Assumes nothing.
use mathlib.Core.Path.{◌≡◌}
use Rattle.std.specs.Prelude.{None}
use borrow.Author.Rules.{rules}
use Rattle.slots.proofs.PartLaws.{object_none, object_small, object_wide}
use Rattle.slots.proofs.parts.object_at.Goals as goal

pub returns-in_err-o : goal.returns-in_err-o
returns-in_err-o c =
    let e : c.from_residual.result ≡ None = search rules in
    rw e (search (object_none, c.in_err-o.was))

pub returns-then-o-lt-MOST_OBJECTS : goal.returns-then-o-lt-MOST_OBJECTS
returns-then-o-lt-MOST_OBJECTS c = search (object_small, c.in_ok-o.was)

pub returns : goal.returns
returns c = search (object_wide, c.in_ok-o.was)
