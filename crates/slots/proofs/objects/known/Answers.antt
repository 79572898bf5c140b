-- `slots::objects::known` meets its contract. Assumes nothing.
use borrow.Author.Tests.{lt-ltb, le-leb}
use mathlib.Core.Path.{sym, ◌∙◌}
use native.Mathlib.Omega.{arith}
use Rattle.slots.proofs.ObjectLaws.{known_low, known_high, known_object}
use Rattle.slots.proofs.objects.known.Goals as goal
use Rattle.slots.proofs.objects.known.Goals.{then-cell-lt-OBJECTS, else-cell-lt-OBJECTS}

pub returns-then-cell-ge-COLLECTIONS : goal.returns-then-cell-ge-COLLECTIONS
returns-then-cell-ge-COLLECTIONS c = elim c.if-cell-lt-OBJECTS.branch [
  | then-cell-lt-OBJECTS w ↦ w.t-4-is ∙ lt-ltb _ _ (omega arith) ∙ sym (known_low _ _ (omega arith))
  | else-cell-lt-OBJECTS w ↦ w.t-4-is ∙ le-leb _ _ (omega arith) ∙ sym (known_high _ _ (omega arith))
]

pub returns-else-cell-ge-COLLECTIONS : goal.returns-else-cell-ge-COLLECTIONS
returns-else-cell-ge-COLLECTIONS c = search known_object
